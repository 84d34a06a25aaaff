-- The follows of the plain machine.
use Rattle.std.specs.Prelude.{◌≡◌, ◌≢◌, List, map}
use Rattle.itpg_base.specs.Words.{Word}
use Rattle.itpg_base.specs.Lists.{Among}
use Rattle.path_ast.specs.Terms.{QueryTerm}
use Rattle.source_rows.specs.Follows.{Follow}
use Rattle.itpg_session.specs.Named.{without_named}

-- a follow of the plain machine: its name and its query
pub record PlainFollow : Type 0 where
  pub name : Word
  pub query : QueryTerm

-- what the plain machine has of a follow that stands: nothing of the rows that are kept
abbrev pub plain_follow : Follow → PlainFollow
plain_follow f = record { name = f.name; query = f.query }

abbrev pub plain_follows : List Follow → List PlainFollow
plain_follows follows = map plain_follow follows

-- a query that is followed under the name
abbrev pub followed : Word → QueryTerm → PlainFollow
followed name q = record { name = name; query = q }

-- a follow of this name stands
abbrev pub IsFollowed : List PlainFollow → Word → Type 0
IsFollowed follows name = (f : PlainFollow) × Among follows f × (f.name ≡ name)

-- the two have different names
abbrev pub FollowsDiffer : PlainFollow → PlainFollow → Type 0
FollowsDiffer f h = f.name ≢ h.name

-- the follows but the one of this name, in their order
abbrev pub without_follow : Word → List PlainFollow → List PlainFollow
without_follow name follows = without_named (λ f. f.name) name follows
