-- What the session holds of each pin: the graph as it stood, and a table of plans of its own.
use Rattle.std.specs.Prelude.{◌≡◌, ◌⊎◌, ℕ, List, [], slice_get, Some, IsSomeAnd}
use Rattle.itpg_base.specs.Words.{Word}
use Rattle.path_ast.specs.Terms.{PathTerm, QueryTerm}
use Rattle.match_parser.specs.Reading.{Reads}
use Rattle.plan_cache.specs.Nodes.{Table}
use Rattle.itpg_pins.specs.Pins.{Held, retabled}
use Rattle.itpg_session.specs.Keeping.{AddsOrRenews, KeepsPath}

-- of the pin at a place the table changes as for a question of this path beside no watch: the path's nodes are added, or the table is
-- made anew, of these nodes alone. Nothing else changes
pub record AddsAt (p : PathTerm) (place : ℕ) (old new : List Held) : Type 0 where
  pub pin : Held
  pub at : slice_get old place ≡ Some pin
  pub table : Table
  pub adds : AddsOrRenews p [] pin.table table
  pub is : new ≡ retabled place table old

-- so it is of the pin of this name
pub record AddsToPin (name : Word) (p : PathTerm) (old new : List Held) : Type 0 where
  pub place : ℕ
  pub named : IsSomeAnd (slice_get old place) (λ h. h.name ≡ name)
  pub adds : AddsAt p place old new

-- or nothing changes
abbrev pub AddsPinPath : Word → PathTerm → List Held → List Held → Type 0
AddsPinPath name p old new = AddsToPin name p old new ⊎ (new ≡ old)

-- so it is with the path of the query that the text reads as
abbrev pub AddsPinText : Word → List ℕ → List Held → List Held → Type 0
AddsPinText name text old new = ((q : QueryTerm) × Reads text q × AddsToPin name q.path old new) ⊎ (new ≡ old)

-- the table of the pin at a place keeps the relation of the path, or it is too large to be kept beside the others
abbrev pub KeepsAt : ℕ → PathTerm → List Held → Type 0
KeepsAt place p pins = IsSomeAnd (slice_get pins place) (λ h. KeepsPath h.graph p h.table)
