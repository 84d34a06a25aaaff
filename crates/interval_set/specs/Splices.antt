-- Splices of a list: pieces put in place of a run of its items.
use Rattle.std.specs.Prelude.{ℕ, ◌≤◌, List, ◌++◌, take, drop, Option, option_to_list}
use Rattle.interval_set.specs.declared.splice.Splice.{Splice}

-- the places of the splice lie in a list of so many items
pub record CanSplice {X : Type 0} (splice : Splice X) (len : ℕ) : Type 0 where
  pub ordered : splice.first ≤ splice.last
  pub within : splice.last ≤ len

-- the list with up to three pieces in place of the items from the one place to before the other
abbrev pub replaced : {X : Type 0} → ℕ → ℕ → Option X → Option X → Option X → List X → List X
replaced first last before own after items = take first items ++ (option_to_list before ++ (option_to_list own ++ (option_to_list after ++ drop last items)))

-- the list after the splice
abbrev pub spliced : {X : Type 0} → Splice X → List X → List X
spliced splice items = replaced splice.first splice.last splice.before splice.own splice.after items
