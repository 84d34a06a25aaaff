-- Relations as they are written down, and between which points they lead.
use Rattle.std.specs.Prelude.{◌≡◌, ℕ, ◌^◌, ◌⊎◌}
use Rattle.itpg_base.specs.Walks.{AreFewer}
use Rattle.repeat_engine.specs.Powers.{Algebra}
pub mod Laws

-- a relation that is given, the identity, or what is made of others
pub data RelationTerm (G : Type 0) : Type 0 where
  Given : G → RelationTerm G
  Identity : RelationTerm G
  Composition : RelationTerm G → RelationTerm G → RelationTerm G
  Union : RelationTerm G → RelationTerm G → RelationTerm G

-- the algebra of relations
abbrev pub relations : {G : Type 0} → Algebra (RelationTerm G)
relations = record { one = Identity; compose = Composition; unite = Union }

-- the relation leads from x to y, where `Leads` says it of those that are given and the identity leads over the points inside
abbrev pub Relates : {P G : Type 0} → (P → Type 0) → (G → P → P → Type 0) → RelationTerm G → P → P → Type 0
Relates Inside Leads (Given g) x y = Leads g x y
Relates Inside Leads Identity x y = Inside x × (x ≡ y)
Relates {P} Inside Leads (Composition a b) x y = (z : P) × Relates Inside Leads a x z × Relates Inside Leads b z y
Relates Inside Leads (Union a b) x y = Relates Inside Leads a x y ⊎ Relates Inside Leads b x y

-- both lead between the same points
pub record RelatesAlike {P G : Type 0} (Inside : P → Type 0) (Leads : G → P → P → Type 0) (a b : RelationTerm G) : Type 0 where
  pub there : (x y : P) → Relates Inside Leads a x y → Relates Inside Leads b x y
  pub back : (x y : P) → Relates Inside Leads b x y → Relates Inside Leads a x y

-- it leads from points inside to points inside alone
abbrev pub IsBetween : {P G : Type 0} → (P → Type 0) → (G → P → P → Type 0) → RelationTerm G → Type 0
IsBetween {P} Inside Leads a = (x y : P) → Relates Inside Leads a x y → Inside x × Inside y

-- fewer than 2 ^ 60 points are inside
abbrev pub AreFew : {P : Type 0} → (P → Type 0) → (P → ℕ) → Type 0
AreFew Inside number = AreFewer (2 ^ 60) Inside number
