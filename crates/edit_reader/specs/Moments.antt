-- The moments and the labels of what a line asks for.
use Rattle.itpg_edit.specs.Sites.{HasMoments, HasLabels}
use Rattle.edit_reader.specs.Readings.{Reading, Changes}

-- where a change is asked for, each of its numbers is a moment
abbrev pub AsksOfMoments : Reading → Type 0
AsksOfMoments (Changes edit) = HasMoments edit
AsksOfMoments _ = Unit {0}

-- where an object is declared, its labels are a set of labels
abbrev pub AsksForLabels : Reading → Type 0
AsksForLabels (Changes edit) = HasLabels edit
AsksForLabels _ = Unit {0}
