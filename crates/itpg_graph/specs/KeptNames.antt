-- A name where it is kept.
use Rattle.itpg_base.specs.Words.{Word}
use Rattle.itpg_graph.specs.declared.kept_name.Place.{Place}
use Rattle.itpg_graph.specs.declared.kept_name.Place.TheVariants.{Here, There}

abbrev pub word_at : Place → Word
word_at (Here short) = short
word_at (There name) = name.value
