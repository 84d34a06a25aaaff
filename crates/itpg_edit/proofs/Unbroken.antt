-- An edit that breaks no rule leads from a good graph to a good one.
use Rattle.std.proofs.Common.{◌≡◌, ℕ, ◌<◌, ◌≤◌, ℤ, ◌≤ℤ◌, ◌<ℤ◌, inl, inr, length, Option, Some, None, refl, sym, subst}
use Rattle.std.specs.Prelude.{IsSome, IsNone}
use Rattle.std.proofs.lemmas.Int.{by_lt_z}
use Rattle.std.proofs.lemmas.Bool.{cases_lt}
use Rattle.itpg_base.specs.Words.{Word}
use Rattle.itpg_base.specs.Spans.{Span, Within}
use Rattle.itpg_base.specs.declared.limits.TheConstants.{MAX_SPANS, MAX_PROPERTIES, MAX_OBJECTS}
use Rattle.itpg_base.specs.Graphs.{Graph, Ends, Good, Named, InHorizon}
use Rattle.itpg_base.proofs.Objects.{there, here}
use Rattle.itpg_graph.specs.Kinds.{IsNode}
use Rattle.itpg_graph.specs.Families.{HasPlace}
use Rattle.itpg_graph.proofs.Goodness.{good_begun, good_node, good_edge, good_live, good_without}
use Rattle.itpg_graph.proofs.Widening.{good_widened}
use Rattle.itpg_graph.proofs.Kept.{good_cut, good_put, good_cleared}
use Rattle.itpg_edit.specs.declared.edit.Edit.{Edit}
use Rattle.itpg_edit.specs.declared.edit.Edit.TheVariants.{Begin, Extend, AddNode, AddEdge, Live, Gone, Put, Clear, Remove}
use Rattle.itpg_edit.specs.Facts.{span_of, IsEdge, LeavesHorizon, LacksEnd, IsAbsent, IsHeld, HasNoPlace}
use Rattle.itpg_edit.specs.Rules.{Unbroken}
use Rattle.itpg_edit.specs.Next.{Next}
use Rattle.itpg_edit.specs.Sites.{HasMoments, HasLabels, EndsExist, IsFree, IsThere}
use Rattle.itpg_edit.proofs.Moments.{decide_exists}
use Rattle.itpg_edit.proofs.Families.{cuts_many}
use Rattle.itpg_edit.proofs.Checked.{named_stands}
use Rattle.itpg_edit.proofs.Widening.{keeps_moments}
use Rattle.itpg_edit.proofs.Deciding.{decide_in_horizon, decide_property}

none_of : {X : Type 0} (o : Option X) → (IsSome o → ⊥) → IsNone o
none_of None never = refl
none_of (Some x) never = absurd (never refl)

some_of : {X : Type 0} (o : Option X) → (IsNone o → ⊥) → IsSome o
some_of None never = absurd (never refl)
some_of (Some x) never = refl

pub not_after : (a b : ℤ) → (b <ℤ a → ⊥) → a ≤ℤ b
not_after a b never = by_lt_z b a (λ lt. absurd (never lt)) (λ le. le)

below : (n m : ℕ) → (m ≤ n → ⊥) → n < m
below n m never = elim (cases_lt n m) [ inl lt ↦ lt | inr ge ↦ absurd (never ge) ]

at_most : (n m : ℕ) → (m < n → ⊥) → n ≤ m
at_most n m never = elim (cases_lt m n) [ inl lt ↦ absurd (never lt) | inr ge ↦ ge ]

inside : (g : Graph) (s : Span) → (LeavesHorizon g s → ⊥) → (t : ℤ) → Within t s → InHorizon g t
inside g s never t w = elim (decide_in_horizon g t) [ inl h ↦ h | inr outside ↦ absurd (never (record { moment = t; within = w; outside = outside })) ]

none_ends : (e : Option Ends) → (IsSome e → ⊥) → e ≡ None
none_ends None never = refl
none_ends (Some n) never = absurd (never refl)

node_of : (g : Graph) (o : ℕ) (name : Word) → Named g o name → (IsEdge g name → ⊥) → IsNode g o
node_of g o name named never =
    let t = there g.objects o _ named in
    here g.objects o _ t.0 t.1 (t.2.0, none_ends t.0.ends (λ some. never (o, named, here g.objects o _ t.0 t.1 some)))

ends_exist : (g : Graph) (o : ℕ) (name : Word) (s : Span) → Named g o name → (LacksEnd g name s → ⊥) → EndsExist g o s
ends_exist g o name s named never a has t w = elim (decide_exists g a t) [
  | inl h ↦ h
  | inr missing ↦ absurd (never (record { edge = o; named = named; end = a; has = has; moment = t; within = w; missing = missing }))
]

is_there : (g : Graph) (o : ℕ) (name : Word) (s : Span) → Named g o name → (IsAbsent g name s → ⊥) → IsThere g o s
is_there g o name s named never t w = elim (decide_exists g o t) [
  | inl h ↦ h
  | inr missing ↦ absurd (never (record { object = o; named = named; moment = t; within = w; missing = missing }))
]

is_free : (g : Graph) (o : ℕ) (name : Word) (s : Span) → Named g o name → (IsHeld g name s → ⊥) → IsFree g o s
is_free g o name s named never e t has w exists = never (record { node = o; named = named; edge = e; has = has; moment = t; within = w; exists = exists })

has_place : (g : Graph) → Good g → (o : ℕ) (name prop : Word) → Named g o name → (HasNoPlace g o prop → ⊥) → HasPlace g o prop
has_place g good o name prop named never =
    let x = there g.objects o _ named in
    elim (decide_property g good o x.0 x.1 prop) [
      | inl has ↦ inl has
      | inr new ↦ inr (here g.objects o _ x.0 x.1 (below (length x.0.properties) MAX_PROPERTIES (λ many. never (record { new = new; many = here g.objects o _ x.0 x.1 many }))))
    ]

pub next_good : (g new : Graph) (edit : Edit) → Good g → HasMoments edit → HasLabels edit → Unbroken g edit → Next g edit new → Good new
next_good g new (Begin name lo hi) good moments labels u next =
    subst Good (sym next) (good_begun g good (none_of g.begun u.0) name (span_of lo hi) (not_after lo hi u.1.0) moments.0 moments.1)
next_good g new (Extend lo hi) good moments labels u next =
    subst Good (sym next) (good_widened g (span_of lo hi) (not_after lo hi u.1.0) moments.0 moments.1 (keeps_moments g (span_of lo hi) u.1.1.0) good)
next_good g new (AddNode id labels) good moments are u next =
    subst Good (sym next) (good_node g good (some_of g.begun u.0) id labels are (λ o h. u.1.0 (o, h)) (below (length g.objects) MAX_OBJECTS u.1.1.0))
next_good g new (AddEdge id labels source target) good moments are u next =
    subst Good (sym next.4) (good_edge g good id labels next.0 next.1 are (λ o h. u.1.0 (o, h))
    (node_of g next.0 source next.2 (λ e. u.1.1.1.0 (inl e))) (node_of g next.1 target next.3 (λ e. u.1.1.1.0 (inr e))) (below (length g.objects) MAX_OBJECTS u.1.1.1.1.0))
next_good g new (Live id from to) good moments labels u next =
    let s = span_of from to in
    let j = next.2 in
    subst Good (sym j.is) (good_live g next.0 s j.live j.runs good (named_stands g next.0 id next.1) (inside g s u.1.1.1.0) (ends_exist g next.0 id s next.1 u.1.1.1.1.0)
    (at_most (length j.live) MAX_SPANS (λ many. u.1.1.1.1.1.0 (next.0, next.1, record { spans = j.live; are = j.runs; many = many }))))
next_good g new (Gone id from to) good moments labels u next =
    let s = span_of from to in
    let j = next.2 in
    subst Good (sym j.is) (good_cut g next.0 s j.live j.properties j.runs j.values good (named_stands g next.0 id next.1) (is_free g next.0 id s next.1 u.1.1.1.1.0)
    (λ n family. at_most n MAX_SPANS (λ many. u.1.1.1.1.1.0 (next.0, next.1, cuts_many g next.0 s n family many))))
next_good g new (Put id prop value from to) good moments labels u next =
    let s = span_of from to in
    let j = next.2 in
    subst Good (sym j.is) (good_put g next.0 prop value s j.properties j.values good (named_stands g next.0 id next.1) (is_there g next.0 id s next.1 u.1.1.1.1.0)
    (λ runs are. at_most (length runs) MAX_SPANS (λ many. u.1.1.1.1.1.0 (next.0, next.1, inl (record { runs = runs; are = are; many = many }))))
    (has_place g good next.0 id prop next.1 (λ full. u.1.1.1.1.1.0 (next.0, next.1, inr full))))
next_good g new (Clear id prop from to) good moments labels u next =
    let s = span_of from to in
    let j = next.2 in
    subst Good (sym j.is) (good_cleared g next.0 prop s j.properties j.values good (named_stands g next.0 id next.1)
    (λ runs are. at_most (length runs) MAX_SPANS (λ many. u.1.1.1.1.0 (next.0, next.1, record { runs = runs; are = are; many = many }))))
next_good g new (Remove id) good moments labels u next =
    subst Good (sym next.2) (good_without g next.0 good (λ e has. u.1.1.0 (record { node = next.0; named = next.1; edge = e; has = has })))
