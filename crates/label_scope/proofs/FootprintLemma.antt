-- If two graphs agree on the footprint of a path, it leads between the same points of them.
use Rattle.std.proofs.Common.{◌≡◌, inl, inr, ⊎_elim, ℕ, List, [], ◌∷◌, Option, None, refl, sym, subst}
use Rattle.std.specs.Prelude.{IsSome, IsSomeAnd, Contains}
use Rattle.itpg_base.specs.Graphs.{Graph, Good}
use Rattle.itpg_base.specs.Points.{Point, IsAt}
use Rattle.itpg_base.specs.Walks.{IsWalk}
use Rattle.path_ast.specs.Terms.{PathTerm, OfTest, Forward, Backward, Next, Previous, Sequence, Choice, Repetition, TestTerm, IsNode, IsEdge, HasLabel, HasValue, IsBelow, DoesExist, Condition, Conjunction, Disjunction, Negation}
use Rattle.path_ast.specs.Meaning.{Rel, Sat, LeadsForward, LeadsBackward}
use Rattle.path_ast.proofs.Pairs.{ends_at}
use Rattle.label_scope.specs.declared.scope.Scope.{Scope}
use Rattle.label_scope.specs.declared.scope.Scope.TheVariants.{All}
use Rattle.label_scope.specs.Scopes.{Has, IsWithin, joined}
use Rattle.label_scope.specs.PropertyScopes.{ScopeHas}
use Rattle.label_scope.specs.Narrowing.{Scopes, Cut, narrowed}
use Rattle.label_scope.specs.Members.{middle, passed}
use Rattle.label_scope.specs.Passing.{AllWithin}
use Rattle.label_scope.specs.Footprints.{shape_of, values_of, of_either, with_shape, footprint, footprint_between, asked_of}
use Rattle.label_scope.specs.Agreeing.{Agree}
use Rattle.label_scope.proofs.Scopes.{has_joined_first, has_joined_second}
use Rattle.label_scope.proofs.Within.{within_all, narrowed_cut, widened_cut}
use Rattle.label_scope.proofs.MiddlePoint.{in_middle}
use Rattle.label_scope.proofs.Inner.{walk_within}
use Rattle.label_scope.proofs.Alike.{lies_first, lies_second, lies_under, lies_shape, agree_in, turned, Alike, carry, within_too, stands_with, alike_at, at_too}

-- between the narrowed scopes it is enough
by_narrowing : (p : PathTerm) (a b : Scope) (g h : Graph) (x y : Point) → Good g
    → (Cut g p (narrowed p a b).sources (narrowed p a b).targets x y → Cut h p (narrowed p a b).sources (narrowed p a b).targets x y) → Cut g p a b x y → Cut h p a b x y
by_narrowing p a b g h x y good between cut = widened_cut p a b h x y (between (narrowed_cut p a b g x y good cut))

-- the objects are within the scopes on the one graph as on the other
cut_too : (p : PathTerm) (s t : Scope) (g h : Graph) (x y : Point) → Alike g h x.object → Alike g h y.object → Cut g p s t x y → Rel p h x y → Cut h p s t x y
cut_too p s t g h x y same_x same_y cut leads = record { leads = leads; source = within_too g h x.object same_x s cut.source; target = within_too g h y.object same_y t cut.target }

module _ (g h : Graph) where
  leads_forward : (x y : Point) → Alike g h x.object → Alike g h y.object → LeadsForward g x y → LeadsForward h x y
  leads_forward x y same_x same_y k = (
    k.0,
    ⊎_elim (λ s. inl (carry g h y.object same_y (λ labels ends. IsSomeAnd ends (λ n. n.source ≡ x.object)) s)) (λ t. inr (carry g h x.object same_x (λ labels ends. IsSomeAnd ends (λ n. n.target ≡ y.object)) t)) k.1,
  )

  leads_backward : (x y : Point) → Alike g h x.object → Alike g h y.object → LeadsBackward g x y → LeadsBackward h x y
  leads_backward x y same_x same_y k = (
    k.0,
    ⊎_elim (λ s. inl (carry g h y.object same_y (λ labels ends. IsSomeAnd ends (λ n. n.target ≡ x.object)) s)) (λ t. inr (carry g h x.object same_x (λ labels ends. IsSomeAnd ends (λ n. n.source ≡ y.object)) t)) k.1,
  )

  -- the axes along edges
  module _ (s t : Scope) (agree : Agree g h (shape_of (joined s t))) where
    shape_first : Agree g h (shape_of s)
    shape_first = agree_in g h (shape_of s) (shape_of (joined s t)) (lies_shape s (shape_of (joined s t)) (λ labels. has_joined_first s t labels)) agree

    shape_second : Agree g h (shape_of t)
    shape_second = agree_in g h (shape_of t) (shape_of (joined s t)) (lies_shape t (shape_of (joined s t)) (λ labels. has_joined_second s t labels)) agree

    forward_too : (x y : Point) → Cut g Forward s t x y → Cut h Forward s t x y
    forward_too x y cut =
        let leads = cut.leads in
        let same_x = alike_at g h s shape_first x leads.0 cut.source in
        let same_y = alike_at g h t shape_second y leads.1 cut.target in
        cut_too Forward s t g h x y same_x same_y cut (at_too g h s shape_first x leads.0 cut.source, at_too g h t shape_second y leads.1 cut.target, leads_forward x y same_x same_y leads.2)

    backward_too : (x y : Point) → Cut g Backward s t x y → Cut h Backward s t x y
    backward_too x y cut =
        let leads = cut.leads in
        let same_x = alike_at g h s shape_first x leads.0 cut.source in
        let same_y = alike_at g h t shape_second y leads.1 cut.target in
        cut_too Backward s t g h x y same_x same_y cut (at_too g h s shape_first x leads.0 cut.source, at_too g h t shape_second y leads.1 cut.target, leads_backward x y same_x same_y leads.2)

  module _ (s t : Scope) (agree : Agree g h (shape_of s)) where
    -- the axes in time
    next_too : (x y : Point) → Cut g Next s t x y → Cut h Next s t x y
    next_too x y cut =
        let leads = cut.leads in
        let within_y = subst (IsWithin s g) (sym leads.2.0) cut.source in
        cut_too Next s t g h x y (alike_at g h s agree x leads.0 cut.source) (alike_at g h s agree y leads.1 within_y) cut (at_too g h s agree x leads.0 cut.source, at_too g h s agree y leads.1 within_y, leads.2)

    previous_too : (x y : Point) → Cut g Previous s t x y → Cut h Previous s t x y
    previous_too x y cut =
        let leads = cut.leads in
        let within_y = subst (IsWithin s g) (sym leads.2.0) cut.source in
        cut_too Previous s t g h x y (alike_at g h s agree x leads.0 cut.source) (alike_at g h s agree y leads.1 within_y) cut (at_too g h s agree x leads.0 cut.source, at_too g h s agree y leads.1 within_y, leads.2)

    -- a test that holds on the one where it does on the other
    test_too : (c : TestTerm) (x y : Point) → (IsAt g x → IsWithin s g x.object → Sat c g x → Sat c h x) → Cut g (OfTest c) s t x y → Cut h (OfTest c) s t x y
    test_too c x y holds cut =
        let leads = cut.leads in
        let same_x = alike_at g h s agree x leads.0 cut.source in
        let same_y = subst (λ (z : Point). Alike g h z.object) (sym leads.1) same_x in
        cut_too (OfTest c) s t g h x y same_x same_y cut (at_too g h s agree x leads.0 cut.source, leads.1, holds leads.0 cut.source leads.2)

  -- a sequence, by both of its paths
  sequence_too : (p q : PathTerm) (ends : Scopes) (x y : Point) → Good g → ((v w : Point) → Cut g p ends.sources (middle p q ends) v w → Cut h p ends.sources (middle p q ends) v w)
      → ((v w : Point) → Cut g q (middle p q ends) ends.targets v w → Cut h q (middle p q ends) ends.targets v w) → Cut g (Sequence p q) ends.sources ends.targets x y → Cut h (Sequence p q) ends.sources ends.targets x y
  sequence_too p q ends x y good one other cut =
      let leads = cut.leads in
      let z = leads.0 in
      let between = in_middle g good p q ends x z y cut.source cut.target leads.1 leads.2 in
      let first = one x z (record { leads = leads.1; source = cut.source; target = between }) in
      let second = other z y (record { leads = leads.2; source = between; target = cut.target }) in
      record { leads = (z, first.leads, second.leads); source = first.source; target = second.target }

  choice_too : (p q : PathTerm) (s t : Scope) (x y : Point) → (Cut g p s t x y → Cut h p s t x y) → (Cut g q s t x y → Cut h q s t x y) → Cut g (Choice p q) s t x y → Cut h (Choice p q) s t x y
  choice_too p q s t x y one other cut =
      ⊎_elim (λ lead. let c = one (record { leads = lead; source = cut.source; target = cut.target }) in record { leads = inl c.leads; source = c.source; target = c.target })
      (λ lead. let c = other (record { leads = lead; source = cut.source; target = cut.target }) in record { leads = inr c.leads; source = c.source; target = c.target }) cut.leads

  -- a walk whose every object is within a scope, by its steps between objects of the scope
  module _ (r : PathTerm) (u : Scope) (steps : (v w : Point) → Cut g r u u v w → Cut h r u u v w) where
    walk_too : (x : Point) (zs : List Point) (y : Point) → AllWithin u g (x ∷ zs) → IsWalk (Rel r g) x zs y → IsWalk (Rel r h) x zs y
    walk_too x [] y within walk = walk
    walk_too x (z ∷ zs) y within walk =
        let step = steps x z (record { leads = walk.0; source = within.0; target = within.1.0 }) in
        (step.leads, walk_too z zs y within.1 walk.1)

    module _ (agree : Agree g h (shape_of u)) where
      last_alike : (x : Point) (zs : List Point) (y : Point) → IsAt g x → AllWithin u g (x ∷ zs) → IsWalk (Rel r g) x zs y → Alike g h y.object
      last_alike x [] y at within walk = subst (λ (v : Point). Alike g h v.object) walk (alike_at g h u agree x at within.0)
      last_alike x (z ∷ zs) y at within walk = last_alike z zs y (ends_at r g x z walk.0) within.1 walk.1

      -- a repetition, if no walk leaves the scope
      pub repetition_too : (n : ℕ) (m : Option ℕ) (s t : Scope) (x y : Point) → ((zs : List Point) → IsWalk (Rel r g) x zs y → AllWithin u g (x ∷ zs)) → Cut g (Repetition r n m) s t x y → Cut h (Repetition r n m) s t x y
      repetition_too n m s t x y stays cut =
          let leads = cut.leads in
          let zs = leads.1.0 in
          let walk = leads.1.2 in
          let within = stays zs walk in
          cut_too (Repetition r n m) s t g h x y (alike_at g h u agree x leads.0 within.0) (last_alike x zs y leads.0 within walk) cut (at_too g h u agree x leads.0 within.0, (zs, leads.1.1, walk_too x zs y within walk))

mutual
  pub between_same : (p : PathTerm) (a b : Scope) (g h : Graph) (x y : Point) → Good g → Good h → Agree g h (footprint_between p a b) → Cut g p a b x y → Cut h p a b x y
  between_same (OfTest c) a b g h x y good also agree =
      let all = with_shape a (asked_of c a) in
      let shape = agree_in g h (shape_of a) all (lies_shape a all (λ labels. has_joined_first a (asked_of c a).shape labels)) agree in
      let asked = agree_in g h (asked_of c a) all (lies_under a (asked_of c a)) agree in
      test_too g h a b shape c x y (sat_same c a g h x good also shape asked)
  between_same Forward a b g h x y good also agree = forward_too g h a b agree x y
  between_same Backward a b g h x y good also agree = backward_too g h a b agree x y
  between_same Next a b g h x y good also agree = next_too g h a b agree x y
  between_same Previous a b g h x y good also agree = previous_too g h a b agree x y
  between_same (Sequence p q) a b g h x y good also agree =
      let ends : Scopes = record { sources = a; targets = b } in
      let m = middle p q ends in
      let first = footprint p a m in
      let second = footprint q m b in
      sequence_too g h p q ends x y good
      (λ v w. by_narrowing p a m g h v w good (between_same p (narrowed p a m).sources (narrowed p a m).targets g h v w good also (agree_in g h first (of_either first second) (lies_first first second) agree)))
      (λ v w. by_narrowing q m b g h v w good (between_same q (narrowed q m b).sources (narrowed q m b).targets g h v w good also (agree_in g h second (of_either first second) (lies_second first second) agree)))
  between_same (Choice p q) a b g h x y good also agree =
      let first = footprint p a b in
      let second = footprint q a b in
      choice_too g h p q a b x y
      (by_narrowing p a b g h x y good (between_same p (narrowed p a b).sources (narrowed p a b).targets g h x y good also (agree_in g h first (of_either first second) (lies_first first second) agree)))
      (by_narrowing q a b g h x y good (between_same q (narrowed q a b).sources (narrowed q a b).targets g h x y good also (agree_in g h second (of_either first second) (lies_second first second) agree)))
  between_same (Repetition r n m) a b g h x y good also agree =
      let ends : Scopes = record { sources = a; targets = b } in
      let u = passed r ends in
      let body = footprint r u u in
      let shape = agree_in g h (shape_of u) (with_shape u body) (lies_shape u (with_shape u body) (λ labels. has_joined_first u body.shape labels)) agree in
      let steps = agree_in g h body (with_shape u body) (lies_under u body) agree in
      λ cut. repetition_too g h r u (λ v w. by_narrowing r u u g h v w good (between_same r (narrowed r u u).sources (narrowed r u u).targets g h v w good also steps)) shape n m a b x y (λ zs walk. walk_within g good r ends x y zs cut.source cut.target walk) cut

  pub sat_same : (c : TestTerm) (a : Scope) (g h : Graph) (x : Point) → Good g → Good h → Agree g h (shape_of a) → Agree g h (asked_of c a) → IsAt g x → IsWithin a g x.object → Sat c g x → Sat c h x
  sat_same IsNode a g h x good also shape asked at within holds = carry g h x.object (alike_at g h a shape x at within) (λ labels ends. ends ≡ None) holds
  sat_same IsEdge a g h x good also shape asked at within holds = carry g h x.object (alike_at g h a shape x at within) (λ labels ends. IsSome ends) holds
  sat_same (HasLabel label) a g h x good also shape asked at within holds = carry g h x.object (alike_at g h a shape x at within) (λ labels ends. Contains labels label) holds
  sat_same (HasValue prop value) a g h x good also shape asked at within holds =
      (asked.values x.object prop x.moment value (inl (stands_with g x.object a (ScopeHas (values_of prop a).values prop) (λ labels k. inl (refl, k)) at.stands within))).0 holds
  sat_same (IsBelow k) a g h x good also shape asked at within holds = holds
  sat_same DoesExist a g h x good also shape asked at within holds =
      (asked.live x.object x.moment (inl (stands_with g x.object a (Has a) (λ labels k. k) at.stands within))).0 holds
  sat_same (Condition p) a g h x good also shape asked at within holds =
      let cut = by_narrowing p a All g h x holds.0 good (between_same p (narrowed p a All).sources (narrowed p a All).targets g h x holds.0 good also asked) (record { leads = holds.1; source = within; target = within_all g holds.0 (ends_at p g x holds.0 holds.1) }) in
      (holds.0, cut.leads)
  sat_same (Conjunction c d) a g h x good also shape asked at within holds = (
    sat_same c a g h x good also shape (agree_in g h (asked_of c a) (of_either (asked_of c a) (asked_of d a)) (lies_first (asked_of c a) (asked_of d a)) asked) at within holds.0,
    sat_same d a g h x good also shape (agree_in g h (asked_of d a) (of_either (asked_of c a) (asked_of d a)) (lies_second (asked_of c a) (asked_of d a)) asked) at within holds.1,
  )
  sat_same (Disjunction c d) a g h x good also shape asked at within (inl holds) =
      inl (sat_same c a g h x good also shape (agree_in g h (asked_of c a) (of_either (asked_of c a) (asked_of d a)) (lies_first (asked_of c a) (asked_of d a)) asked) at within holds)
  sat_same (Disjunction c d) a g h x good also shape asked at within (inr holds) =
      inr (sat_same d a g h x good also shape (agree_in g h (asked_of d a) (of_either (asked_of c a) (asked_of d a)) (lies_second (asked_of c a) (asked_of d a)) asked) at within holds)
  sat_same (Negation c) a g h x good also shape asked at within fails = λ holds.
      fails (sat_same c a h g x also good (turned g h (shape_of a) shape) (turned g h (asked_of c a) asked) (at_too g h a shape x at within) (within_too g h x.object (alike_at g h a shape x at within) a within) holds)

-- between two scopes, if the graphs agree on what the path asks between what its own labels leave of them
pub cut_same : (p : PathTerm) (a b : Scope) (g h : Graph) (x y : Point) → Good g → Good h → Agree g h (footprint p a b) → Cut g p a b x y → Cut h p a b x y
cut_same p a b g h x y good also agree = by_narrowing p a b g h x y good (between_same p (narrowed p a b).sources (narrowed p a b).targets g h x y good also agree)
