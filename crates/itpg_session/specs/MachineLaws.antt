-- Laws of the plain machine.
use Rattle.std.specs.Prelude.{◌≡◌, ◌↔◌, ℕ, ◌≤◌, List, take}
use Rattle.itpg_base.specs.Graphs.{Graph}
use Rattle.itpg_session.specs.Replies.{Reply, IsReply, NamesDeclared}
use Rattle.row_printer.specs.declared.form.Form.{Form}
use Rattle.itpg_session.specs.Lines.{LineIs}
use Rattle.itpg_session.specs.Machine.{Machine, IsGood, Turn, Replies, opening}

-- on each graph a query text has at most one reply
abbrev pub OneAsked : Type 0
OneAsked = (g : Graph) (limit : ℕ) (text : List ℕ) (x y : Reply) → IsReply g limit text x → IsReply g limit text y → x ≡ y

-- and it has one
abbrev pub SomeAsked : Type 0
SomeAsked = (g : Graph) (limit : ℕ) (text : List ℕ) → (reply : Reply) × IsReply g limit text reply

-- whose rows are of declared objects
abbrev pub DeclaredAsked : Type 0
DeclaredAsked = (g : Graph) (limit : ℕ) (text : List ℕ) (reply : Reply) → IsReply g limit text reply → NamesDeclared g reply

-- from a good machine a line of either form has at most one turn
abbrev pub OneReply : Type 0
OneReply = (limit : ℕ) (m : Machine) (form : Form) (line : List ℕ) (x y : Turn) → IsGood m → Replies limit m (LineIs form line) x → Replies limit m (LineIs form line) y → x ≡ y

-- and it has one
abbrev pub SomeReply : Type 0
SomeReply = (limit : ℕ) (m : Machine) (form : Form) (line : List ℕ) → IsGood m → (t : Turn) × Replies limit m (LineIs form line) t

-- which leaves a good machine
abbrev pub GoodReply : Type 0
GoodReply = (limit : ℕ) (m : Machine) (form : Form) (line : List ℕ) (t : Turn) → IsGood m → Replies limit m (LineIs form line) t → IsGood t.next

-- the machine is good at first
abbrev pub GoodOpening : Type 0
GoodOpening = IsGood opening

-- a line has the turns of its first 65,538 bytes, or of any longer front: of a longer line no more need be kept
abbrev pub FrontReplies : Type 0
FrontReplies = (limit : ℕ) (m : Machine) (form : Form) (line : List ℕ) (n : ℕ) (t : Turn) → 65538 ≤ n → Replies limit m (LineIs form (take n line)) t ↔ Replies limit m (LineIs form line) t
