-- A path that is taken once or more leads from one object to another just where it does any number of times. Only on the way
-- from an object back to it must a step be told from none.
use Rattle.std.proofs.Common.{◌≡◌, inl, inr, ℕ, List, [], ◌∷◌, length, Some, None, Result, Ok, Err, sym, subst, ap, arith}
use Rattle.itpg_base.specs.Chains.{chain}
use Rattle.itpg_base.specs.Decided.{Decided}
use Rattle.itpg_base.specs.Graphs.{Graph}
use Rattle.itpg_base.specs.Points.{Point, Relation}
use Rattle.itpg_base.specs.Walks.{IsWalk}
use Rattle.itpg_base.proofs.Searches.{same_number}
use Rattle.relation_rows.specs.declared.rows.Row.{Row}
use Rattle.relation_rows.specs.declared.rows.RelFault.{RelFault}
use Rattle.relation_rows.specs.declared.rows.RelFault.TheVariants.{Memory, Wide}
use Rattle.relation_rows.specs.Rows.{RowsHold, RowBefore, NormalRows, IsWide}
use Rattle.relation_rows.specs.Answers.{Gives}
use Rattle.relation_rows.specs.Relations.{HasMiddlePoint, EitherHolds}
use Rattle.relation_rows.proofs.Alike.{rows_alike, hold_only, wide_alike}
use Rattle.relation_rows.proofs.Keeping.{kept_exists, kept_normal}
use Rattle.relation_rows.proofs.Listed.{ordered_fewer, row_apart}
use Rattle.path_ast.specs.Terms.{PathTerm, Repetition}
use Rattle.path_ast.specs.Walks.{IsFromTo}
use Rattle.path_ast.specs.Meaning.{Rel}
use Rattle.path_ast.proofs.Pairs.{starts_at, ends_at}
use Rattle.label_scope.specs.declared.scope.Scope.{Scope}
use Rattle.label_scope.specs.Scopes.{IsWithin}
use Rattle.label_scope.specs.Narrowing.{Cut}
use Rattle.label_scope.specs.Members.{passed, powers_within, unions_within, further}
use Rattle.plan_cache.specs.RightRows.{AllFit}
use Rattle.path_eval.specs.Powers.{IsBody, HeldBetween, HoldsFitting, GivesMember, repetition_members, repetition_member}
use Rattle.path_eval.proofs.Ending.{scopes, sides, walks_between}
use Rattle.path_eval.proofs.Walking.{of_cut, cut_of, repeats_of, ends_inside, in_two, in_one}
use Rattle.path_eval.proofs.MembersWithin.{fit_both, wide_own}

-- where the rows of some sources and targets are too many, all rows are
wide_part : (R : Relation) (So : ℕ → ℕ → Type 0) (limit : ℕ) → ((o p : ℕ) → Decided (So o p)) → IsWide (λ x y. R x y × So x.object y.object) limit → IsWide R limit
wide_part R So limit decide wide rows n =
    let part = kept_exists So decide rows n.order in
    let kept = part.1 in
    let many = wide part.0 (kept_normal So rows R part.0 n kept) in
    let fewer = ordered_fewer RowBefore row_apart part.0 rows kept.order n.order kept.there in
    omega (arith, fewer, many)

-- a walk from one object to another has some step
some_steps : (R : Relation) (x : Point) (zs : List Point) (y : Point) → (x.object ≡ y.object → ⊥) → IsWalk R x zs y → IsFromTo 1 None (length zs)
some_steps R x [] y other w = absurd (other (ap (λ (v : Point). v.object) w))
some_steps R x (z ∷ zs) y other w = (omega arith, tt)

module _ (g : Graph) (r : PathTerm) (u : Scope) (limit : ℕ) (rows : List Row) (body : IsBody g r u limit rows) (a b : Scope) (is : u ≡ passed r (scopes a b))
    (power rest : List Row) (power_holds : HoldsFitting (Cut g (Repetition r 1 (Some 1)) u u) limit power) (rest_holds : HoldsFitting (Cut g (Repetition r 0 None) u u) limit rest) where
  abbrev OnceOrMore : Relation
  OnceOrMore = Cut g (Repetition r 1 None) a b

  abbrev GivesOnceOrMore : Result (List Row) RelFault → Type 0
  GivesOnceOrMore result = GivesMember g limit (repetition_member r 1 None a b) (repetition_members r u 1 None) result

  -- once, and then any number of times, back to the object
  module _ (first both : List Row) (first_normal : NormalRows (HeldBetween g power a u) first) (both_normal : NormalRows (HeldBetween g first b u) both) where
    abbrev pub Returns : Relation
    Returns x y = HasMiddlePoint both rest x y × (x.object ≡ y.object)

    returning : (x y : Point) → Returns x y → OnceOrMore x y
    returning x y h =
        let two = h.0 in
        let z = two.0 in
        let before = hold_only (HeldBetween g first b u) both both_normal x z two.1 in
        let step = hold_only (HeldBetween g power a u) first first_normal x z before.held in
        let v = of_cut g body.good r u rows body.normal body.passes 1 (Some 1) x z (power_holds.only x z step.held) in
        let w = of_cut g body.good r u rows body.normal body.passes 0 None z y (rest_holds.only z y two.2) in
        let source = step.source in
        let there = before.source in
        record {
          leads = repeats_of g body.good r u rows body.normal 1 None x y (in_one g body.good r u rows body.normal 1 None x z y (omega arith, tt) v w);
          source = source.1;
          target = subst (IsWithin b g) h.1 there.1;
        }

    of_return : (x y : Point) → OnceOrMore x y → x.object ≡ y.object → Returns x y
    of_return x y c same =
        let two = in_two g body.good r u rows body.normal 1 None x y (walks_between g r u limit rows body a b is 1 None x y c) in
        let z = two.0 in
        let start = starts_at (Repetition r 1 None) g x y c.leads in
        let middle = ends_inside g body.good r u rows body.normal 1 (Some 1) x z two.1 in
        let at = middle.at in
        let v = power_holds.whole x z (cut_of g body.good r u rows body.normal 1 (Some 1) x z two.1) in
        let w = rest_holds.whole z y (cut_of g body.good r u rows body.normal 0 None z y two.2) in
        let step = first_normal.whole x z (record { held = v; source = (start.stands, c.source); target = (at.stands, middle.within) }) in
        let back = both_normal.whole x z (record { held = step; source = (start.stands, subst (IsWithin b g) (sym same) c.target); target = (at.stands, middle.within) }) in
        ((z, back, w), same)

    -- why these aren't given is why the repetition isn't
    pub return_fault : (fault : RelFault) → Gives (Err fault) Returns limit → GivesOnceOrMore (Err fault)
    return_fault Memory given = tt
    return_fault Wide given =
        wide_own g limit (repetition_member r 1 None a b) (repetition_members r u 1 None)
        (wide_part OnceOrMore (λ o p. o ≡ p) limit same_number
        (wide_alike Returns (λ x y. OnceOrMore x y × (x.object ≡ y.object)) (λ x y h. (returning x y h, h.1)) (λ x y h. of_return x y h.0 h.1) limit given))

    -- and on to another object any number of times
    module _ (cut_rest on : List Row) (cut_normal : NormalRows (HeldBetween g rest a b) cut_rest) (on_normal : NormalRows (λ x y. RowsHold cut_rest x y × (x.object ≡ y.object → ⊥)) on) where
      going : (x y : Point) → RowsHold on x y → OnceOrMore x y
      going x y h =
          let other = hold_only (λ x y. RowsHold cut_rest x y × (x.object ≡ y.object → ⊥)) on on_normal x y h in
          let held = hold_only (HeldBetween g rest a b) cut_rest cut_normal x y other.0 in
          let leads = (rest_holds.only x y held.held).leads in
          let walk = leads.1 in
          let source = held.source in
          let target = held.target in
          record { leads = (leads.0, (walk.0, some_steps (Rel r g) x walk.0 y other.1 walk.2, walk.2)); source = source.1; target = target.1 }

      of_going : (x y : Point) → OnceOrMore x y → (x.object ≡ y.object → ⊥) → RowsHold on x y
      of_going x y c other =
          let s = sides g r u limit rows body a b is 1 None x y c in
          let leads = c.leads in
          let walk = leads.1 in
          let start = starts_at (Repetition r 1 None) g x y c.leads in
          let end = ends_at (Repetition r 1 None) g x y c.leads in
          let held = rest_holds.whole x y (record { leads = (leads.0, (walk.0, (omega arith, tt), walk.2)); source = s.0; target = s.1 }) in
          on_normal.whole x y (cut_normal.whole x y (record { held = held; source = (start.stands, c.source); target = (end.stands, c.target) }), other)

      module _ (back : List Row) (back_normal : NormalRows Returns back) where
        once_from : (x y : Point) → EitherHolds on back x y → OnceOrMore x y
        once_from x y (inl h) = going x y h
        once_from x y (inr h) = returning x y (hold_only Returns back back_normal x y h)

        from_once : (x y : Point) → OnceOrMore x y → EitherHolds on back x y
        from_once x y c = elim (same_number x.object y.object) [ inl same ↦ inr (back_normal.whole x y (of_return x y c same)) | inr other ↦ inl (of_going x y c other) ]

        pub once_between : AllFit g limit (powers_within r u (chain 1)) → AllFit g limit (unions_within r u (further 1 None))
            → (result : Result (List Row) RelFault) → Gives result (EitherHolds on back) limit → GivesOnceOrMore result
        once_between f h (Ok kept) given = (
          rows_alike (EitherHolds on back) OnceOrMore once_from from_once kept given.0,
          given.1,
          fit_both g limit (powers_within r u (chain 1)) (unions_within r u (further 1 None)) f h,
        )
        once_between f h (Err Memory) given = tt
        once_between f h (Err Wide) given =
            wide_own g limit (repetition_member r 1 None a b) (repetition_members r u 1 None) (wide_alike (EitherHolds on back) OnceOrMore once_from from_once limit given)
