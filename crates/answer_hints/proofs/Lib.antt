mod RelaxedLemmas
mod RowLemmas
mod GrownTable
mod RepeatedLemmas
mod ToldLemmas
