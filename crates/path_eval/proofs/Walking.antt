-- Powers within a scope lead over the walks of a repetition.
use Rattle.std.proofs.Common.{◌≡◌, inl, inr, ℕ, zero, suc, ◌+◌, ◌≤◌, ◌^◌, List, [], ◌∷◌, ◌++◌, length, Option, Some, None, refl, sym, ap, subst, arith, length-append}
use Rattle.itpg_base.specs.Graphs.{Graph, Good}
use Rattle.itpg_base.specs.Points.{Point, Relation}
use Rattle.itpg_base.specs.Walks.{IsWalk}
use Rattle.itpg_base.proofs.Searches.{at_most}
use Rattle.relation_rows.specs.declared.rows.Row.{Row}
use Rattle.relation_rows.specs.Rows.{RowsHold, NormalRows}
use Rattle.relation_rows.proofs.Alike.{hold_only}
use Rattle.path_ast.specs.Terms.{PathTerm, Repetition}
use Rattle.path_ast.specs.Walks.{IsFromTo}
use Rattle.path_ast.specs.Meaning.{Rel}
use Rattle.path_ast.proofs.Pairs.{starts_at, ends_at}
use Rattle.label_scope.specs.declared.scope.Scope.{Scope}
use Rattle.label_scope.specs.Scopes.{IsWithin}
use Rattle.label_scope.specs.Narrowing.{Cut}
use Rattle.repeat_engine.specs.Powers.{nth_power, union_of_powers}
use Rattle.repeat_engine.specs.Relations.{Given, relations}
use Rattle.repeat_engine.specs.Relations.Laws.{power_walk, walk_power, power_in_union, union_power}
use Rattle.path_eval.specs.Powers.{IsInside, Leads, StaysInside, left_over}
use Rattle.path_eval.specs.Powers.Lawful.{powers_lawful}

-- from x, a point inside, a walk of at least n and at most m steps of the rows leads to y
pub record WalksInside (g : Graph) (u : Scope) (rows : List Row) (n : ℕ) (m : Option ℕ) (x y : Point) : Type 0 where
  pub start : IsInside g u x
  pub points : List Point
  pub steps : IsFromTo n m (length points)
  pub walk : IsWalk (RowsHold rows) x points y

-- a walk in two
record IsInTwo (rows : List Row) (n : ℕ) (zs : List Point) (x y : Point) : Type 0 where
  middle : Point
  first : List Point
  second : List Point
  before : IsWalk (RowsHold rows) x first middle
  after : IsWalk (RowsHold rows) middle second y
  part : length first ≡ n
  whole : length zs ≡ n + length second

split_walk : (rows : List Row) (n : ℕ) (zs : List Point) (x y : Point) → n ≤ length zs → IsWalk (RowsHold rows) x zs y → IsInTwo rows n zs x y
split_walk rows zero zs x y few w = record { middle = x; first = []; second = zs; before = refl; after = w; part = refl; whole = omega arith }
split_walk rows (suc n) [] x y few w = absurd (omega (arith, few))
split_walk rows (suc n) (z ∷ zs) x y few w =
    let rest = split_walk rows n zs z y (omega (arith, few)) w.1 in
    let whole = rest.whole in
    record {
      middle = rest.middle;
      first = z ∷ rest.first;
      second = rest.second;
      before = (w.0, rest.before);
      after = rest.after;
      part = ap suc rest.part;
      whole = omega (arith, whole);
    }

join_walk : (rows : List Row) (first second : List Point) (x z y : Point) → IsWalk (RowsHold rows) x first z → IsWalk (RowsHold rows) z second y → IsWalk (RowsHold rows) x (first ++ second) y
join_walk rows [] second x z y before after = subst (λ (v : Point). IsWalk (RowsHold rows) v second y) (sym before) after
join_walk rows (v ∷ first) second x z y before after = (before.0, join_walk rows first second v z y before.1 after)

left_steps : (n : ℕ) (m : Option ℕ) (k all : ℕ) → all ≡ n + k → IsFromTo n m all → IsFromTo 0 (left_over n m) k
left_steps n None k all e h = (omega arith, tt)
left_steps n (Some m) k all e h = let most = h.1 in (omega arith, omega (arith, e, most))

all_steps : (n : ℕ) (m : Option ℕ) (i k all : ℕ) → IsFromTo 0 m n → all ≡ i + k → IsFromTo n (Some n) i → IsFromTo 0 (left_over n m) k → IsFromTo n m all
all_steps n None i k all least e h j = let from = h.0 in (omega (arith, e, from), tt)
all_steps n (Some m) i k all least e h j = let from = h.0 in let to = h.1 in let left = j.1 in let fits = least.1 in (omega (arith, e, from), omega (arith, e, to, left, fits))

module _ (g : Graph) (good : Good g) (r : PathTerm) (u : Scope) (rows : List Row) (normal : NormalRows (Cut g r u u) rows) where
  step_cut : (x y : Point) → RowsHold rows x y → Cut g r u u x y
  step_cut x y h = hold_only (Cut g r u u) rows normal x y h

  -- the rows lead between points inside
  pub rows_inside : StaysInside g u (Given rows)
  rows_inside x y h =
      let c = step_cut x y h in
      (record { good = good; at = starts_at r g x y c.leads; within = c.source }, record { good = good; at = ends_at r g x y c.leads; within = c.target })

  walk_out : (x : Point) (zs : List Point) (y : Point) → IsWalk (RowsHold rows) x zs y → IsWalk (Rel r g) x zs y
  walk_out x [] y w = w
  walk_out x (z ∷ zs) y w = ((step_cut x z w.0).leads, walk_out z zs y w.1)

  inside_end : (x : Point) (zs : List Point) (y : Point) → IsInside g u x → IsWalk (RowsHold rows) x zs y → IsInside g u y
  inside_end x [] y i w = subst (IsInside g u) w i
  inside_end x (z ∷ zs) y i w = inside_end z zs y (rows_inside x z w.0).1 w.1

  abbrev Walks : ℕ → Option ℕ → Relation
  Walks n m x y = WalksInside g u rows n m x y

  pub ends_inside : (n : ℕ) (m : Option ℕ) (x y : Point) → Walks n m x y → IsInside g u y
  ends_inside n m x y w = inside_end x w.points y w.start w.walk

  pub repeats_of : (n : ℕ) (m : Option ℕ) (x y : Point) → Walks n m x y → Rel (Repetition r n m) g x y
  repeats_of n m x y w = let start = w.start in (start.at, (w.points, w.steps, walk_out x w.points y w.walk))

  pub cut_of : (n : ℕ) (m : Option ℕ) (x y : Point) → Walks n m x y → Cut g (Repetition r n m) u u x y
  cut_of n m x y w = let start = w.start in let end = ends_inside n m x y w in record { leads = repeats_of n m x y w; source = start.within; target = end.within }

  starts_inside : (k : ℕ) (x y : Point) → Leads g u (nth_power relations (Given rows) k) x y → IsInside g u x
  unfolding nth_power
  starts_inside zero x y h = h.0
  starts_inside (suc k) x y h = starts_inside k x h.0 h.1

  -- a power leads over the walks of as many steps
  pub walks_of_power : (k : ℕ) (x y : Point) → Leads g u (nth_power relations (Given rows) k) x y → Walks k (Some k) x y
  walks_of_power k x y h =
      let w = power_walk (IsInside g u) RowsHold (Given rows) k x y h in
      let e = w.1 in
      record { start = starts_inside k x y h; points = w.0; steps = (omega (arith, e), omega (arith, e)); walk = w.2 }

  pub power_of_walks : (k : ℕ) (x y : Point) → Walks k (Some k) x y → Leads g u (nth_power relations (Given rows) k) x y
  power_of_walks k x y w =
      let least = (w.steps).0 in let most = (w.steps).1 in
      let same : length w.points ≡ k = omega (arith, least, most) in
      subst (λ (i : ℕ). Leads g u (nth_power relations (Given rows) i) x y) same
      (walk_power (IsInside g u) RowsHold (Given rows) rows_inside w.points x y w.start w.walk)

  -- a union of powers over those of at most as many
  pub walks_of_union : (n : ℕ) (x y : Point) → Leads g u (union_of_powers relations (Given rows) n) x y → Walks 0 (Some n) x y
  walks_of_union n x y h =
      let k = union_power (IsInside g u) RowsHold (Given rows) n x y h in
      let w = walks_of_power k.0 x y k.2 in
      let below = k.1 in let most = (w.steps).1 in
      record { start = w.start; points = w.points; steps = (omega arith, omega (arith, below, most)); walk = w.walk }

  power_of_points : (m : Option ℕ) (x y : Point) (w : Walks 0 m x y) → Leads g u (nth_power relations (Given rows) (length w.points)) x y
  power_of_points m x y w = walk_power (IsInside g u) RowsHold (Given rows) rows_inside w.points x y w.start w.walk

  pub union_of_walks : (n : ℕ) (x y : Point) → Walks 0 (Some n) x y → Leads g u (union_of_powers relations (Given rows) n) x y
  union_of_walks n x y w = power_in_union (IsInside g u) RowsHold (Given rows) (length w.points) n x y (w.steps).1 (power_of_points (Some n) x y w)

  -- and the union of the powers 0 to 2 ^ 60 over all
  pub walks_of_all : (x y : Point) → Leads g u (union_of_powers relations (Given rows) (2 ^ 60)) x y → Walks 0 None x y
  walks_of_all x y h =
      let w = walks_of_union (2 ^ 60) x y h in
      record { start = w.start; points = w.points; steps = (omega arith, tt); walk = w.walk }

  pub all_of_walks : (x y : Point) → Walks 0 None x y → Leads g u (union_of_powers relations (Given rows) (2 ^ 60)) x y
  all_of_walks x y w = elim (at_most (length w.points) (2 ^ 60)) [
    | inl few ↦ power_in_union (IsInside g u) RowsHold (Given rows) (length w.points) (2 ^ 60) x y few (power_of_points None x y w)
    | inr many ↦ ((powers_lawful g u 0).bounded (Given rows) (length w.points) rows_inside (omega (arith, many))).there x y (inr (power_of_points None x y w))
  ]

  -- n times, and then what is left over
  pub in_two : (n : ℕ) (m : Option ℕ) (x y : Point) → Walks n m x y → (z : Point) × Walks n (Some n) x z × Walks 0 (left_over n m) z y
  in_two n m x y w =
      let s = split_walk rows n w.points x y (w.steps).0 w.walk in
      let part = s.part in (
        s.middle,
        record { start = w.start; points = s.first; steps = (omega (arith, part), omega (arith, part)); walk = s.before },
        record { start = inside_end x s.first s.middle w.start s.before; points = s.second; steps = left_steps n m (length s.second) (length w.points) s.whole w.steps; walk = s.after },
      )

  pub in_one : (n : ℕ) (m : Option ℕ) (x z y : Point) → IsFromTo 0 m n → Walks n (Some n) x z → Walks 0 (left_over n m) z y → Walks n m x y
  in_one n m x z y least v w = record {
    start = v.start;
    points = v.points ++ w.points;
    steps = all_steps n m (length v.points) (length w.points) (length (v.points ++ w.points)) least (length-append v.points w.points) v.steps w.steps;
    walk = join_walk rows v.points w.points x z y v.walk w.walk;
  }

  module _ (pass : (x z y : Point) → IsWithin u g x.object → Rel r g x z → Rel r g z y → IsWithin u g z.object) where
    walk_in : (x : Point) (zs : List Point) (y : Point) → IsWithin u g x.object → IsWithin u g y.object → IsWalk (Rel r g) x zs y → IsWalk (RowsHold rows) x zs y
    walk_in x [] y a b w = w
    walk_in x (z ∷ []) y a b w = (normal.whole x z (record { leads = w.0; source = a; target = subst (λ (v : Point). IsWithin u g v.object) (sym w.1) b }), w.1)
    walk_in x (z ∷ v ∷ zs) y a b w =
        let c = pass x z v a w.0 w.1.0 in
        (normal.whole x z (record { leads = w.0; source = a; target = c }), walk_in z (v ∷ zs) y c b w.1)

    pub walks_of : (n : ℕ) (m : Option ℕ) (x y : Point) → IsWithin u g x.object → IsWithin u g y.object → Rel (Repetition r n m) g x y → Walks n m x y
    walks_of n m x y a b h = record { start = record { good = good; at = h.0; within = a }; points = h.1.0; steps = h.1.1; walk = walk_in x h.1.0 y a b h.1.2 }

    pub of_cut : (n : ℕ) (m : Option ℕ) (x y : Point) → Cut g (Repetition r n m) u u x y → Walks n m x y
    of_cut n m x y c = walks_of n m x y c.source c.target c.leads
