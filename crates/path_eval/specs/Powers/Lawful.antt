-- Relations between the points of a good graph, within a scope, are lawful: fewer than 2 ^ 60 points are inside.
use Rattle.std.proofs.Common.{◌≡◌, ℕ, ◌+◌, ◌*◌, ◌<◌, ◌^◌, ℤ, pos, negsuc, ◌+ℤ◌, ◌≤ℤ◌, Option, Some, None, refl, sym, ◌∙◌, ap, arith, lit<}
use Rattle.std.proofs.lemmas.Int.{ints}
use Rattle.std.proofs.lemmas.Option.{slice_get_within}
use Rattle.std.specs.Prelude.{IfSome, IsSomeAnd, length}
use Rattle.itpg_base.specs.Spans.{Within, IsMoment}
use Rattle.itpg_base.specs.Graphs.{Graph, Begun, IsBegun, Good}
use Rattle.itpg_base.specs.Points.{Point, IsAt}
use Rattle.itpg_base.proofs.PointSearch.{point_ext}
use Rattle.itpg_base.proofs.Objects.{there}
use Rattle.relation_rows.specs.Rows.{RowsHold}
use Rattle.relation_rows.proofs.Alike.{fits_alike}
use Rattle.label_scope.specs.declared.scope.Scope.{Scope}
use Rattle.repeat_engine.specs.Composed.{IsLawful}
use Rattle.repeat_engine.specs.Relations.{AreFew, relations}
use Rattle.repeat_engine.specs.Relations.Laws.{relations_lawful}
use Rattle.path_eval.specs.Powers.{IsInside, Leads, LeadAlike, StaysInside, FitsInside}

-- a whole number that isn't negative, as one
natural : ℤ → ℕ
natural (pos n) = n
natural (negsuc n) = 0

natural_is : (z : ℤ) → pos 0 ≤ℤ z → pos (natural z) ≡ z
unfolding natural
natural_is (pos n) h = refl
natural_is (negsuc n) h = absurd (omega (arith, ints))

-- how many moments there are before this one
moment_number : ℤ → ℕ
moment_number t = natural (t +ℤ pos 1000000000000)

moment_number_is : (t : ℤ) → IsMoment t → pos (moment_number t) ≡ t +ℤ pos 1000000000000
unfolding moment_number
moment_number_is t m = let least = m.least in natural_is (t +ℤ pos 1000000000000) (omega (arith, ints))

-- the moments of a good graph's points are moments
is_moment : (g : Graph) → Good g → (x : Point) → IsAt g x → IsMoment x.moment
is_moment g good x at = of_begun g.begun good.begun at.within
  where
    of_begun : (b : Option Begun) → IfSome b IsBegun → IsSomeAnd b (λ v. Within x.moment v.horizon) → IsMoment x.moment
    of_begun None h w = absurd w
    of_begun (Some b) h w =
        let from = h.from in let to = h.to in
        let least = from.least in let greatest = to.greatest in
        let begun = w.begun in let going = w.going in
        record { least = omega (arith, ints); greatest = omega (arith, ints) }

-- points are numbered object by object
pub point_code : Point → ℕ
point_code x = x.object * 2000000000001 + moment_number x.moment

object_below : (g : Graph) (x : Point) → IsAt g x → x.object < length g.objects
object_below g x at = let s = there g.objects x.object _ at.stands in slice_get_within g.objects x.object s.0 s.1

below_all : (o t : ℕ) → o < 200000 → t < 2000000000001 → o * 2000000000001 + t < 400000000000200000
below_all o t h k = omega (arith, h, k)

same_object : (o p t u : ℕ) → t < 2000000000001 → u < 2000000000001 → o * 2000000000001 + t ≡ p * 2000000000001 + u → o ≡ p
same_object o p t u h k e = omega (arith, h, k, e)

same_rest : (o p t u : ℕ) → o ≡ p → o * 2000000000001 + t ≡ p * 2000000000001 + u → t ≡ u
same_rest o p t u h e = omega (arith, h, e)

few_moments : (t : ℤ) → IsMoment t → moment_number t < 2000000000001
few_moments t m = let is = moment_number_is t m in let greatest = m.greatest in omega (arith, ints)

pub few_inside : (g : Graph) (u : Scope) → AreFew (IsInside g u) point_code
unfolding point_code
few_inside g u = record {
  below = λ x i.
      let good = i.good in
      let few = good.few in
      let object = object_below g x i.at in
      let code : point_code x < 400000000000200000 = below_all x.object (moment_number x.moment) (omega (arith, few, object)) (few_moments x.moment (is_moment g i.good x i.at)) in
      let all : 400000000000200000 < 2 ^ 60 = lit< tt in
      omega (arith, code, all);
  apart = λ x y i j e.
      let m = is_moment g i.good x i.at in
      let n = is_moment g j.good y j.at in
      let object = same_object x.object y.object (moment_number x.moment) (moment_number y.moment) (few_moments x.moment m) (few_moments y.moment n) e in
      let rest = same_rest x.object y.object (moment_number x.moment) (moment_number y.moment) object e in
      let there : x.moment +ℤ pos 1000000000000 ≡ y.moment +ℤ pos 1000000000000 = sym (moment_number_is x.moment m) ∙ ap pos rest ∙ moment_number_is y.moment n in
      point_ext x y object (omega (arith, ints));
}

-- powers within a scope are lawful
pub powers_lawful : (g : Graph) (u : Scope) (limit : ℕ) → IsLawful (LeadAlike g u) (StaysInside g u) (FitsInside g u limit) relations
powers_lawful g u limit =
    relations_lawful (IsInside g u) RowsHold {number = point_code} (few_inside g u) (FitsInside g u limit)
    (λ a b e fits. fits_alike (Leads g u a) (Leads g u b) e.there e.back limit fits)
