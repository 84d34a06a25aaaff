-- Powers that are cut to the scopes at both ends, alone or one after the other, are the repetition between these.
use Rattle.std.proofs.Common.{◌≡◌, ℕ, ◌-◌, ◌≤◌, List, [], ◌∷◌, length, Option, Some, None, Result, Ok, Err, sym, ◌∙◌, subst, ap, arith}
use Rattle.itpg_base.specs.Chains.{chain}
use Rattle.itpg_base.specs.Graphs.{Graph, Good}
use Rattle.itpg_base.specs.Points.{Point, Relation}
use Rattle.relation_rows.specs.declared.rows.Row.{Row}
use Rattle.relation_rows.specs.declared.rows.RelFault.{RelFault}
use Rattle.relation_rows.specs.declared.rows.RelFault.TheVariants.{Memory, Wide}
use Rattle.relation_rows.specs.Rows.{RowsHold, NormalRows, Fits}
use Rattle.relation_rows.specs.Answers.{Gives}
use Rattle.relation_rows.specs.Relations.{HasMiddlePoint}
use Rattle.relation_rows.proofs.Alike.{rows_alike, fits_alike, hold_only, wide_alike}
use Rattle.path_ast.specs.Terms.{PathTerm, Repetition}
use Rattle.path_ast.specs.Sizes.{AreInRange}
use Rattle.itpg_base.specs.Walks.{IsWalk}
use Rattle.path_ast.specs.Walks.{IsFromTo}
use Rattle.path_ast.specs.Meaning.{Rel}
use Rattle.path_ast.proofs.Pairs.{starts_at, ends_at}
use Rattle.label_scope.specs.declared.scope.Scope.{Scope}
use Rattle.label_scope.specs.Scopes.{IsWithin}
use Rattle.label_scope.specs.Narrowing.{Cut, Scopes}
use Rattle.label_scope.specs.Members.{passed, powers_within, unions_within, further}
use Rattle.repeat_engine.proofs.ChainLaws.{chain_zero}
use Rattle.plan_cache.specs.RightRows.{AllFit}
use Rattle.path_eval.specs.Evaluated.{SomeIsWide}
use Rattle.path_eval.specs.Powers.{SameWithinBoth, PassesWithin, IsBody, HeldBetween, HoldsFitting, GivesPairs, GivesMember, left_over, repetition_members, repetition_member}
use Rattle.label_scope.proofs.Inner.{inner_within, ends_within}
use Rattle.path_eval.proofs.Walking.{WalksInside, walks_of, of_cut, cut_of, repeats_of, ends_inside, in_two, in_one}
use Rattle.path_eval.proofs.MembersWithin.{none_fit, fit_both, wide_first, wide_second, wide_rest, wide_own}

abbrev pub scopes : Scope → Scope → Scopes
scopes a b = record { sources = a; targets = b }

module _ (g : Graph) (r : PathTerm) (u : Scope) (limit : ℕ) (rows : List Row) (body : IsBody g r u limit rows) (a b : Scope) (is : u ≡ passed r (scopes a b)) where
  -- both ends of a repetition between the two scopes are within the scope of all that it passes
  pub sides : (n : ℕ) (m : Option ℕ) (x y : Point) → Cut g (Repetition r n m) a b x y → IsWithin u g x.object × IsWithin u g y.object
  sides n m x y c = subst (λ (v : Scope). IsWithin v g x.object × IsWithin v g y.object) (sym is) (ends_within g body.good r (scopes a b) n m x y c.leads c.source c.target)

  pub walks_between : (n : ℕ) (m : Option ℕ) (x y : Point) → Cut g (Repetition r n m) a b x y → WalksInside g u rows n m x y
  walks_between n m x y c = let s = sides n m x y c in walks_of g body.good r u rows body.normal body.passes n m x y s.0 s.1 c.leads

  -- one repetition, cut to both scopes
  module _ (n : ℕ) (m : Option ℕ) (whole : List Row) (holds : HoldsFitting (Cut g (Repetition r n m) u u) limit whole) where
    ends_held : (x y : Point) → HeldBetween g whole a b x y → Cut g (Repetition r n m) a b x y
    ends_held x y h = let c = holds.only x y h.held in let source = h.source in let target = h.target in record { leads = c.leads; source = source.1; target = target.1 }

    held_ends : (x y : Point) → Cut g (Repetition r n m) a b x y → HeldBetween g whole a b x y
    held_ends x y c =
        let s = sides n m x y c in
        let start = starts_at (Repetition r n m) g x y c.leads in
        let end = ends_at (Repetition r n m) g x y c.leads in
        record { held = holds.whole x y (record { leads = c.leads; source = s.0; target = s.1 }); source = (start.stands, c.source); target = (end.stands, c.target) }

    pub cut_alone : (kept : List Row) → NormalRows (HeldBetween g whole a b) kept → NormalRows (Cut g (Repetition r n m) a b) kept
    cut_alone kept n' = rows_alike (HeldBetween g whole a b) (Cut g (Repetition r n m) a b) ends_held held_ends kept n'

  -- n times from the one scope, and then what is left over to the other
  module _ (n : ℕ) (m : Option ℕ) (least : IsFromTo 0 m n) (power rest : List Row) (power_holds : HoldsFitting (Cut g (Repetition r n (Some n)) u u) limit power)
      (rest_holds : HoldsFitting (Cut g (Repetition r 0 (left_over n m)) u u) limit rest) (first second : List Row)
      (first_normal : NormalRows (HeldBetween g power a u) first) (second_normal : NormalRows (HeldBetween g rest u b) second) where
    through : (x y : Point) → HasMiddlePoint first second x y → Cut g (Repetition r n m) a b x y
    through x y h =
        let z = h.0 in
        let before = hold_only (HeldBetween g power a u) first first_normal x z h.1 in
        let after = hold_only (HeldBetween g rest u b) second second_normal z y h.2 in
        let v = of_cut g body.good r u rows body.normal body.passes n (Some n) x z (power_holds.only x z before.held) in
        let w = of_cut g body.good r u rows body.normal body.passes 0 (left_over n m) z y (rest_holds.only z y after.held) in
        let source = before.source in
        let target = after.target in
        record { leads = repeats_of g body.good r u rows body.normal n m x y (in_one g body.good r u rows body.normal n m x z y least v w); source = source.1; target = target.1 }

    of_through : (x y : Point) → Cut g (Repetition r n m) a b x y → HasMiddlePoint first second x y
    of_through x y c =
        let two = in_two g body.good r u rows body.normal n m x y (walks_between n m x y c) in
        let z = two.0 in
        let start = starts_at (Repetition r n m) g x y c.leads in
        let end = ends_at (Repetition r n m) g x y c.leads in
        let middle = ends_inside g body.good r u rows body.normal n (Some n) x z two.1 in
        let at = middle.at in
        let v = power_holds.whole x z (cut_of g body.good r u rows body.normal n (Some n) x z two.1) in
        let w = rest_holds.whole z y (cut_of g body.good r u rows body.normal 0 (left_over n m) z y two.2) in (
          z,
          first_normal.whole x z (record { held = v; source = (start.stands, c.source); target = (at.stands, middle.within) }),
          second_normal.whole z y (record { held = w; source = (at.stands, middle.within); target = (end.stands, c.target) }),
        )

    pub composed_between : AllFit g limit (powers_within r u (chain n)) → AllFit g limit (unions_within r u (further n m)) → (result : Result (List Row) RelFault) → Gives result (HasMiddlePoint first second) limit
        → GivesMember g limit (repetition_member r n m a b) (repetition_members r u n m) result
    composed_between f h (Ok kept) given = (
      rows_alike (HasMiddlePoint first second) (Cut g (Repetition r n m) a b) through of_through kept given.0,
      given.1,
      fit_both g limit (powers_within r u (chain n)) (unions_within r u (further n m)) f h,
    )
    composed_between f h (Err Memory) given = tt
    composed_between f h (Err Wide) given =
        wide_own g limit (repetition_member r n m a b) (repetition_members r u n m)
        (wide_alike (HasMiddlePoint first second) (Cut g (Repetition r n m) a b) through of_through limit given)

  -- no time
  zeroth_in : (x y : Point) → SameWithinBoth g a b x y → Cut g (Repetition r 0 (Some 0)) a b x y
  zeroth_in x y h =
      let i = h.0 in
      record { leads = (i.at, ([], (omega arith, omega arith), h.2)); source = i.within; target = subst (λ (v : Point). IsWithin b g v.object) h.2 h.1 }

  in_zeroth : (x y : Point) → Cut g (Repetition r 0 (Some 0)) a b x y → SameWithinBoth g a b x y
  in_zeroth x y c =
      let leads = c.leads in
      let repeated = leads.1 in
      let same = no_steps x repeated.0 y (repeated.1).1 repeated.2 in
      (record { good = body.good; at = leads.0; within = c.source }, subst (λ (v : Point). IsWithin b g v.object) (sym same) c.target, same)
    where
      no_steps : (x : Point) (zs : List Point) (y : Point) → length zs ≤ 0 → IsWalk (Rel r g) x zs y → x ≡ y
      no_steps x [] y few w = w
      no_steps x (z ∷ zs) y few w = absurd (omega (arith, few))

  none_left : (n : ℕ) → AllFit g limit (powers_within r u (chain n)) → AllFit g limit (repetition_members r u n (Some n))
  none_left n f =
      let nothing : n - n ≡ 0 = omega arith in
      let none : chain (n - n) ≡ [] = ap chain nothing ∙ chain_zero in
      fit_both g limit (powers_within r u (chain n)) (unions_within r u (further n (Some n))) f (subst (λ (ks : List ℕ). AllFit g limit (unions_within r u ks)) (sym none) (none_fit g limit))

  none_first : (m : Option ℕ) → AllFit g limit (unions_within r u (further 0 m)) → AllFit g limit (repetition_members r u 0 m)
  none_first m f =
      fit_both g limit (powers_within r u (chain 0)) (unions_within r u (further 0 m)) (subst (λ (ks : List ℕ). AllFit g limit (powers_within r u ks)) (sym chain_zero) (none_fit g limit)) f

  pub zeroth_between : (n : ℕ) → n ≡ 0 → (result : Result (List Row) RelFault) → Gives result (SameWithinBoth g a b) limit → GivesMember g limit (repetition_member r n (Some n) a b) (repetition_members r u n (Some n)) result
  zeroth_between n none result given =
      subst (λ (k : ℕ). GivesMember g limit (repetition_member r k (Some k) a b) (repetition_members r u k (Some k)) result) (sym none) (zeroth result given)
    where
      zeroth : (result : Result (List Row) RelFault) → Gives result (SameWithinBoth g a b) limit → GivesMember g limit (repetition_member r 0 (Some 0) a b) (repetition_members r u 0 (Some 0)) result
      zeroth (Ok kept) given = (
        rows_alike (SameWithinBoth g a b) (Cut g (Repetition r 0 (Some 0)) a b) zeroth_in in_zeroth kept given.0,
        given.1,
        none_left 0 (subst (λ (ks : List ℕ). AllFit g limit (powers_within r u ks)) (sym chain_zero) (none_fit g limit)),
      )
      zeroth (Err Memory) given = tt
      zeroth (Err Wide) given =
          wide_own g limit (repetition_member r 0 (Some 0) a b) (repetition_members r u 0 (Some 0))
          (wide_alike (SameWithinBoth g a b) (Cut g (Repetition r 0 (Some 0)) a b) zeroth_in in_zeroth limit given)

  -- the powers alone
  pub exactly_between : (n : ℕ) (power kept : List Row) → GivesPairs g limit (Cut g (Repetition r n (Some n)) u u) (powers_within r u (chain n)) (Ok power)
      → NormalRows (HeldBetween g power a b) kept → length kept ≤ limit → GivesMember g limit (repetition_member r n (Some n) a b) (repetition_members r u n (Some n)) (Ok kept)
  exactly_between n power kept given normal few = (cut_alone n (Some n) power given.0 kept normal, few, none_left n given.1)

  -- and what may follow alone
  pub rest_between : (n : ℕ) (m : Option ℕ) → n ≡ 0 → (rest kept : List Row) → HoldsFitting (Cut g (Repetition r 0 (left_over n m)) u u) limit rest → AllFit g limit (unions_within r u (further n m))
      → NormalRows (HeldBetween g rest a b) kept → length kept ≤ limit → GivesMember g limit (repetition_member r n m a b) (repetition_members r u n m) (Ok kept)
  rest_between n m none rest kept holds fits normal few =
      subst (λ (k : ℕ). GivesMember g limit (repetition_member r k m a b) (repetition_members r u k m) (Ok kept)) (sym none) (
        cut_alone 0 m rest (all_left m (subst (λ (k : ℕ). HoldsFitting (Cut g (Repetition r 0 (left_over k m)) u u) limit rest) none holds)) kept normal,
        few,
        none_first m (subst (λ (k : ℕ). AllFit g limit (unions_within r u (further k m))) none fits),
      )
    where
      all_left : (m : Option ℕ) → HoldsFitting (Cut g (Repetition r 0 (left_over 0 m)) u u) limit rest → HoldsFitting (Cut g (Repetition r 0 m) u u) limit rest
      all_left None h = h
      all_left (Some most) h = let same : most - 0 ≡ most = omega arith in subst (λ (k : ℕ). HoldsFitting (Cut g (Repetition r 0 (Some k)) u u) limit rest) same h

  pub wide_power : (n : ℕ) (m : Option ℕ) → SomeIsWide g limit (powers_within r u (chain n)) → SomeIsWide g limit (repetition_member r n m a b ∷ repetition_members r u n m)
  wide_power n m w = wide_rest g limit (repetition_member r n m a b) (repetition_members r u n m) (wide_first g limit (powers_within r u (chain n)) (unions_within r u (further n m)) w)

  pub wide_union : (n : ℕ) (m : Option ℕ) → SomeIsWide g limit (unions_within r u (further n m)) → SomeIsWide g limit (repetition_member r n m a b ∷ repetition_members r u n m)
  wide_union n m w = wide_rest g limit (repetition_member r n m a b) (repetition_members r u n m) (wide_second g limit (powers_within r u (chain n)) (unions_within r u (further n m)) w)

  -- why a power, or a union, isn't given is why the repetition isn't
  pub power_fault : (n : ℕ) (m : Option ℕ) (fault : RelFault) → GivesPairs g limit (Cut g (Repetition r n (Some n)) u u) (powers_within r u (chain n)) (Err fault)
      → GivesMember g limit (repetition_member r n m a b) (repetition_members r u n m) (Err fault)
  power_fault n m Memory given = tt
  power_fault n m Wide given = wide_power n m given

  pub union_fault : (n : ℕ) (m : Option ℕ) (fault : RelFault) → GivesPairs g limit (Cut g (Repetition r 0 (left_over n m)) u u) (unions_within r u (further n m)) (Err fault)
      → GivesMember g limit (repetition_member r n m a b) (repetition_members r u n m) (Err fault)
  union_fault n m Memory given = tt
  union_fault n m Wide given = wide_union n m given

-- n times, and then as many as are left, are no more than the most
pub least_of : (n : ℕ) (m : Option ℕ) → AreInRange n m → IsFromTo 0 m n
least_of n None h = (omega arith, tt)
least_of n (Some most) h = let range = h.most in (omega arith, range.0)

pub held_fits : (R : Relation) (limit : ℕ) (rows : List Row) → HoldsFitting R limit rows → Fits (RowsHold rows) limit
held_fits R limit rows holds = fits_alike R (RowsHold rows) holds.whole holds.only limit holds.fits

-- within the scope of all that a repetition passes, its body is ready
pub body_ready : (g : Graph) (r : PathTerm) (u : Scope) (limit : ℕ) (rows : List Row) (a b : Scope) → Good g → NormalRows (Cut g r u u) rows → length rows ≤ limit → u ≡ passed r (scopes a b) → IsBody g r u limit rows
body_ready g r u limit rows a b good normal few is = record {
  good = good;
  normal = normal;
  few = few;
  passes = subst (PassesWithin g r) (sym is) (inner_within g good r (scopes a b));
}
