mod Telling
mod Widest
mod Appended
mod Firsts
mod NeededLemmas
mod NeededLaw
mod RootLemmas
mod KeptLemmas
