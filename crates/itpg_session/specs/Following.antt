-- What answering a line leaves of the follows, and of the rows that they keep of single objects.
use Rattle.std.specs.Prelude.{◌≡◌, ◌≢◌, ◌↔◌, ◌⊎◌, ℕ, List, [], ◌∷◌, ◌++◌, length, slice_get, Some, IsSomeAnd, OnOk, Result, Ok, Err}
use Rattle.std.specs.List.{AllZip}
use Rattle.itpg_base.specs.Words.{Word}
use Rattle.itpg_base.specs.Graphs.{Graph, Named}
use Rattle.itpg_base.specs.Lists.{Among}
use Rattle.itpg_base.specs.declared.object_number.ObjNo.{ObjNo}
use Rattle.itpg_base.specs.declared.text_code.TextCode.{TextCode}
use Rattle.itpg_graph.specs.Edges.{HasNumber, AreNumbers}
use Rattle.itpg_edit.specs.declared.edit.Edit.{Edit}
use Rattle.itpg_edit.specs.Rules.{NoneOf, Unbroken}
use Rattle.edit_reader.specs.Readings.{Reading, Changes, Follows, Nears, Unfollows}
use Rattle.path_ast.specs.Terms.{QueryTerm}
use Rattle.match_parser.specs.Reading.{Reads}
use Rattle.relation_rows.specs.Answered.{Answered}
use Rattle.source_rows.specs.Steps.{path_steps}
use Rattle.source_rows.specs.Reach.{Reach}
use Rattle.source_rows.specs.Touched.{IsTouched, AreTouched}
use Rattle.source_rows.specs.declared.touched.Touched.{Touched}
use Rattle.source_rows.specs.Follows.{Follow, Entry, new_follow, without, with_entry, HasRows, IsKept, IsShort}
use Rattle.itpg_session.specs.Rules.{NearBreaks, name_rules}
use Rattle.itpg_session.specs.PlainFollows.{plain_follow}
use Rattle.itpg_session.specs.Questions.{HasRowsFrom}
use Rattle.itpg_session.specs.declared.reply.Reply.{Reply as ReplyValue}
use Rattle.itpg_session.specs.Replies.{Silent, Rows, line_reply}
use Rattle.itpg_session.specs.Machine.{Standing, NearsName, told}

-- the edit touches one of the objects
abbrev pub TouchesSome : Graph → Edit → List ObjNo → Type 0
TouchesSome g edit objects = (o : ℕ) × HasNumber objects o × IsTouched g edit o

-- of what a follow keeps exactly the rows stay whose objects the edit doesn't touch
pub record IsSpared (g : Graph) (edit : Edit) (old new : Follow) : Type 0 where
  pub name : new.name ≡ old.name
  pub query : new.query ≡ old.query
  pub entries : (e : Entry) → Among new.entries e ↔ (Among old.entries e × ¬ TouchesSome g edit e.objects)

-- so it is with each follow
abbrev pub SparesUntouched : Edit → Standing → Standing → Type 0
SparesUntouched edit old new = AllZip (IsSpared old.machine.graph edit) old.follows new.follows

-- the set has what the edit touches; or nothing is followed, and then it may have anything
abbrev pub IsToSpare : Graph → Edit → Touched → List Follow → Type 0
IsToSpare g edit touched follows = AreTouched g edit touched ⊎ (length follows ≡ 0)

-- the query that the text reads as is followed behind the others; nothing is kept of it
abbrev pub AddsFollowed : Word → List ℕ → List Follow → List Follow → Type 0
AddsFollowed name text old new = (q : QueryTerm) × Reads text q × (new ≡ old ++ new_follow name q ∷ [])

-- the follow at a place gains rows of the object
pub record GainsAt (place object : ℕ) (old new : List Follow) : Type 0 where
  pub entry : Entry
  pub of : entry.source ≡ object
  pub is : new ≡ with_entry place entry old

-- the follow of the one name gains the rows of the object of the other
pub record GainsRows (name id : Word) (old new : Standing) : Type 0 where
  pub place : ℕ
  pub named : IsSomeAnd (slice_get old.follows place) (λ f. f.name ≡ name)
  pub object : ℕ
  pub is_object : Named old.machine.graph object id
  pub gains : GainsAt place object old.follows new.follows

-- the query is followed behind the others, or nothing changes
abbrev pub AddsOrKeeps : Word → QueryTerm → List Follow → List Follow → Type 0
AddsOrKeeps name q old new = (new ≡ old ++ new_follow name q ∷ []) ⊎ (new ≡ old)

-- what answering a line that asks for this leaves of the follows
abbrev pub LeavesFollows : Reading → Standing → Standing → Type 0
LeavesFollows (Changes edit) old new = SparesUntouched edit old new ⊎ (new.follows ≡ old.follows)
LeavesFollows (Follows name text) old new = AddsFollowed name text old.follows new.follows ⊎ (new.follows ≡ old.follows)
LeavesFollows (Nears name id) old new = GainsRows name id old new ⊎ (new.follows ≡ old.follows)
LeavesFollows (Unfollows name) old new = (new.follows ≡ without name old.follows) ⊎ (new.follows ≡ old.follows)
LeavesFollows reading old new = new.follows ≡ old.follows

-- the same of what a line is
abbrev pub LeavesFollowsSo : Result Reading TextCode → Standing → Standing → Type 0
LeavesFollowsSo (Ok reading) old new = LeavesFollows reading old new
LeavesFollowsSo (Err code) old new = new.follows ≡ old.follows

-- and of a line that is this
abbrev pub LeavesFollowsLine : (Result Reading TextCode → Type 0) → Standing → Standing → Type 0
LeavesFollowsLine Is old new = (what : Result Reading TextCode) → Is what → LeavesFollowsSo what old new

-- where something is said of what a line asks for, or memory or the sink fails, the follows are as they were, but for the rows of one object
abbrev pub HoldsFollows : Reading → Standing → Standing → Type 0
HoldsFollows (Nears name id) old new = GainsRows name id old new ⊎ (new.follows ≡ old.follows)
HoldsFollows reading old new = new.follows ≡ old.follows

-- the same of what a line is
abbrev pub HoldsFollowsSo : Result Reading TextCode → Standing → Standing → Type 0
HoldsFollowsSo (Ok reading) old new = HoldsFollows reading old new
HoldsFollowsSo (Err code) old new = new.follows ≡ old.follows

-- and of a line that is this
abbrev pub HoldsFollowsLine : (Result Reading TextCode → Type 0) → Standing → Standing → Type 0
HoldsFollowsLine Is old new = (what : Result Reading TextCode) → Is what → HoldsFollowsSo what old new

-- where something is said, or memory runs out, the follows are as they were
abbrev pub KeepsIfSaid : {E : Type 0} → Standing → Standing → Result ReplyValue E → Type 0
KeepsIfSaid old new (Ok reply) = line_reply reply ≢ Silent → new.follows ≡ old.follows
KeepsIfSaid old new (Err error) = new.follows ≡ old.follows

-- where something is said of what a line asks for they are so but for the rows of one object, and where memory runs out just so
abbrev pub HoldsIfSaid : {E : Type 0} → Reading → Standing → Standing → Result ReplyValue E → Type 0
HoldsIfSaid reading old new (Ok reply) = line_reply reply ≢ Silent → HoldsFollows reading old new
HoldsIfSaid reading old new (Err error) = new.follows ≡ old.follows

-- after an edit that a line is which is this, and that breaks no rule, exactly the rows are kept whose objects it doesn't touch
abbrev pub SparesLine : (Result Reading TextCode → Type 0) → Standing → Standing → Type 0
SparesLine Is old new = (edit : Edit) → Is (Ok (Changes edit)) → Unbroken old.machine.graph edit → SparesUntouched edit old new

-- beside what is kept there is no room for the rows of the object and the objects that they depend on
pub record LacksRoom (s : Standing) (q : QueryTerm) (o : ℕ) : Type 0 where
  pub answer : Answered
  pub rows : HasRowsFrom s.machine.graph s.limit q o answer
  pub objects : List ObjNo
  pub reach : AreNumbers (Reach s.machine.graph o (path_steps q.path)) objects
  pub short : IsShort s.follows objects answer

-- rows of the object are kept at the follow at a place, or there was no room for them
abbrev pub KeepsOrLacks : ℕ → ℕ → Standing → Standing → Type 0
KeepsOrLacks place o old new = IsKept new.follows place o ⊎ IsSomeAnd (slice_get old.follows place) (λ f. LacksRoom old f.query o)

-- so it is with the object of the one name at the follow of the other
pub record KeepsTold (name id : Word) (old new : Standing) : Type 0 where
  pub place : ℕ
  pub named : IsSomeAnd (slice_get old.follows place) (λ f. f.name ≡ name)
  pub object : ℕ
  pub is_object : Named old.machine.graph object id
  pub kept : KeepsOrLacks place object old new

-- so it is after a line that asks for rows from an object and is answered with them
abbrev pub KeepsNear : Reading → Standing → Standing → Type 0
KeepsNear (Nears name id) old new = (answer : Answered) → NearsName old.limit old.machine name id (told old.machine (Rows answer)) → KeepsTold name id old new
KeepsNear reading old new = Unit {0}

-- the same of what a line is
abbrev pub KeepsNearSo : Result Reading TextCode → Standing → Standing → Type 0
KeepsNearSo (Ok reading) old new = KeepsNear reading old new
KeepsNearSo (Err code) old new = Unit {0}

-- and of a line that is this
abbrev pub KeepsNearLine : (Result Reading TextCode → Type 0) → Standing → Standing → Type 0
KeepsNearLine Is old new = (what : Result Reading TextCode) → Is what → KeepsNearSo what old new

-- after an edit that breaks no rule, exactly the rows are kept whose objects it doesn't touch
abbrev pub SparesRead : Reading → Standing → Standing → Type 0
SparesRead (Changes edit) old new = Unbroken old.machine.graph edit → SparesUntouched edit old new
SparesRead reading old new = Unit {0}

-- what deciding the reply to what a line asks for leaves of the follows
pub record DecidesFollows {E : Type 0} (reading : Reading) (old new : Standing) (result : Result ReplyValue E) : Type 0 where
  pub leaves : LeavesFollows reading old new
  pub spares : OnOk result (SparesRead reading old new)
  pub near : OnOk result (KeepsNear reading old new)
  pub holds : HoldsIfSaid reading old new result

-- the same of what a line is
abbrev pub DecidesFollowsSo : {E : Type 0} → Result Reading TextCode → Standing → Standing → Result ReplyValue E → Type 0
DecidesFollowsSo (Ok reading) old new result = DecidesFollows reading old new result
DecidesFollowsSo (Err code) old new result = new.follows ≡ old.follows

-- the names break no rule, and this answer is kept of the object at the follow
pub record NearsKept (s : Standing) (name id : Word) (answer : Answered) : Type 0 where
  pub unbroken : NoneOf (NearBreaks s.machine.graph s.machine.follows name id) name_rules
  pub place : ℕ
  pub follow : Follow
  pub at : slice_get s.follows place ≡ Some follow
  pub plain_at : slice_get s.machine.follows place ≡ Some (plain_follow follow)
  pub named : follow.name ≡ name
  pub object : ℕ
  pub is_object : Named s.machine.graph object id
  pub kept : HasRows follow.entries object answer
  pub rows : HasRowsFrom s.machine.graph s.limit follow.query object answer
