-- Rows that lead each of their points to itself, and compositions with them.
use Rattle.std.proofs.Common.{◌≡◌, ⊎_elim, ℕ, ◌+◌, ◌<◌, ◌≤◌, ℤ, ◌≤ℤ◌, List, [], ◌∷◌, length, take, slice_index_or, Option, Some, Result, sym, ◌∙◌, subst, arith}
use Rattle.std.specs.Prelude.{IfSome}
use Rattle.std.proofs.lemmas.Int.{ints}
use Rattle.std.proofs.lemmas.List.{take_more, take_all}
use Rattle.itpg_base.specs.Points.{Point}
use Rattle.itpg_base.specs.Lists.{Among}
use Rattle.itpg_base.proofs.Lists.{among_append}
use Rattle.zone_core.specs.Zone.{Between}
use Rattle.band_normal.specs.declared.band.Band.{Band}
use Rattle.band_normal.specs.Bands.{end_at, InBand}
use Rattle.relation_rows.specs.declared.rows.Row.{Row}
use Rattle.relation_rows.specs.declared.rows.RelFault.{RelFault}
use Rattle.relation_rows.specs.Rows.{InRow, RowsHold, IsRelation}
use Rattle.relation_rows.specs.Answers.{Gives}
use Rattle.relation_rows.specs.Relations.{HasMiddlePoint}
use Rattle.relation_rows.specs.Idle.{IsIdle, AreIdle, TakesOn, DepartsWith, EachHas, IsWholeSide}
use Rattle.relation_rows.proofs.Arriving.{end_up}
use Rattle.relation_rows.proofs.Giving.{gives_alike}

-- ---- a list of which more and more is read

-- each of the first k has the property
abbrev pub SoFar : (Row → Type 0) → List Row → ℕ → Type 0
SoFar P rows k = (r : Row) → Among (take k rows) r → P r

pub none_so_far : (P : Row → Type 0) (rows : List Row) → SoFar P rows 0
none_so_far P [] r a = absurd a
none_so_far P (x ∷ xs) r a = absurd a

pub one_more : (P : Row → Type 0) (rows : List Row) (k : ℕ) (d : Row) → k < length rows → SoFar P rows k → P (slice_index_or rows k d) → SoFar P rows (k + 1)
one_more P rows k d lt so p r a = ⊎_elim
    (λ b. so r b)
    (λ b. ⊎_elim (λ (e : slice_index_or rows k d ≡ r). subst P e p) (λ c. absurd c) b)
    (among_append (take k rows) (slice_index_or rows k d ∷ []) r (subst (λ (v : List Row). Among v r) (take_more rows k d lt) a))

pub all_so_far : (P : Row → Type 0) (rows : List Row) (k : ℕ) → length rows ≤ k → SoFar P rows k → (r : Row) → Among rows r → P r
all_so_far P rows k le so = subst (λ (v : List Row). (r : Row) → Among v r → P r) (take_all k rows le) so

-- ---- arrivals of a band

pub arrivals_within : (b c : Band) (first last : ℤ) → first ≡ end_at b.low b.from → last ≡ end_at b.high b.to → c.from ≤ℤ first → last ≤ℤ c.to → (t : ℤ) → (u : ℤ) → InBand b t u → Between c.from c.to u
arrivals_within b c first last is_first is_last begins ends t u h =
    let up = end_up b.low b.from t h.from in
    let down = end_up b.high t b.to h.to in
    let low = h.low in
    let high = h.high in
    record { above = omega (arith, ints, is_first, begins, up, low); below = omega (arith, ints, is_last, ends, down, high) }

-- ---- the ways

-- an idle row has a point that it departs from
at_rest : (s : Row) → IsIdle s → (m : Point) → s.source.0 ≡ m.object → Between s.band.from s.band.to m.moment → InRow s m m
at_rest s idle m e within =
    let rests = idle.1 m.moment within.above within.below in
    let low = rests.0 in
    let high = rests.1 in
    record {
      source = e;
      target = sym idle.0 ∙ e;
      pair = record { from = within.above; to = within.below; low = omega (arith, ints, low); high = omega (arith, ints, high) };
    }

-- it leads to the same point
same_object : (s : Row) → IsIdle s → (x y : Point) → InRow s x y → x.object ≡ y.object
same_object s idle x y i = sym i.source ∙ idle.0 ∙ i.target

same_moment : (s : Row) → IsIdle s → (x y : Point) → InRow s x y → x.moment ≡ y.moment
same_moment s idle x y i =
    let p = i.pair in
    let rests = idle.1 x.moment p.from p.to in
    let first = rests.0 in
    let last = rests.1 in
    let low = p.low in
    let high = p.high in
    omega (arith, ints, first, last, low, high)

pub stays_whole : (rows second : List Row) → IsRelation rows → AreIdle second → EachHas TakesOn rows second → IsWholeSide rows second rows
stays_whole rows second is idle each = record {
  relation = is;
  ways = λ x y. (
    λ h.
        let i = h.2 in
        let f = each h.0 h.1 in
        (y, h, (f.0, f.1, at_rest f.0 (idle f.0 f.1) y (f.2.0 ∙ i.target) (f.2.1 x.moment y.moment i.pair))),
    λ w.
        let m = w.0 in
        let h = w.1 in
        let i = h.2 in
        let j = w.2 in
        let rest = idle j.0 j.1 in (
          h.0,
          h.1,
          record {
            source = i.source;
            target = i.target ∙ same_object j.0 rest m y j.2;
            pair = subst (λ (v : ℤ). InBand (h.0).band x.moment v) (same_moment j.0 rest m y j.2) i.pair;
          },
        ),
  );
}

pub reached_whole : (rows second : List Row) → IsRelation second → AreIdle rows → EachHas DepartsWith second rows → IsWholeSide rows second second
reached_whole rows second is idle each = record {
  relation = is;
  ways = λ x y. (
    λ h.
        let i = h.2 in
        let p = i.pair in
        let f = each h.0 h.1 in
        (x, (f.0, f.1, at_rest f.0 (idle f.0 f.1) x (f.2.0 ∙ i.source) (f.2.1 x.moment (record { above = p.from; below = p.to }))), h),
    λ w.
        let m = w.0 in
        let h = w.1 in
        let j = w.2 in
        let i = j.2 in
        let rest = idle h.0 h.1 in (
          j.0,
          j.1,
          record {
            source = i.source ∙ sym (same_object h.0 rest x m h.2);
            target = i.target;
            pair = subst (λ (v : ℤ). InBand (j.0).band v y.moment) (sym (same_moment h.0 rest x m h.2)) i.pair;
          },
        ),
  );
}

-- ---- what is made of them

pub some_has : {X : Type 0} (P : X → Type 0) (o : Option X) (x : X) → o ≡ Some x → IfSome o P → P x
some_has {X} P o x e h = subst (λ (v : Option X). IfSome v P) e h

pub gives_whole : (first second rows : List Row) → IsWholeSide first second rows → (limit : ℕ) → (r : Result (List Row) RelFault) → Gives r (RowsHold rows) limit → Gives r (HasMiddlePoint first second) limit
gives_whole first second rows is limit r g = gives_alike (RowsHold rows) (HasMiddlePoint first second) (λ x y h. (is.ways x y).0 h) (λ x y h. (is.ways x y).1 h) limit r g
