-- What is found out of a change, and the rules that an edit which asks for it breaks or doesn't.
use Rattle.std.proofs.Common.{◌≡◌, ℕ, zero, suc, ◌+◌, ◌<◌, ◌≤◌, ℤ, ◌≤ℤ◌, List, [], ◌∷◌, ◌⊎◌, inl, inr, ⊎_elim, length, take, get_or, Option, Some, None, Result, Ok, Err, IfErr, Bool, true, not, ◌==◌, true≢false, refl, sym, ap, ◌∙◌, subst, arith}
use Rattle.std.specs.Prelude.{IsSome, option_map}
use Rattle.std.proofs.lemmas.Int.{ints}
use Rattle.itpg_base.specs.Words.{Word}
use Rattle.itpg_base.specs.Spans.{Span, IsSpan, Within}
use Rattle.itpg_base.specs.Graphs.{Graph, Object, Good, Named, Stands, Exists, HasEnd, ObjectIs}
use Rattle.itpg_base.specs.declared.limits.TheConstants.{MAX_PROPERTIES, MAX_OBJECTS}
use Rattle.itpg_base.proofs.Objects.{there, here, same_some}
use Rattle.itpg_base.specs.declared.rule_code.RuleCode.{RuleCode}
use Rattle.itpg_base.specs.declared.rule_code.RuleCode.TheVariants.{NoGraph, Taken, Unknown, Kind, Backwards, Horizon, Ends, Absent, Held, Incident, Full}
use Rattle.itpg_base.specs.declared.object_number.ObjNo.{ObjNo}
use Rattle.itpg_graph.specs.Edges.{HasNumber, AreNumbers}
use Rattle.itpg_graph.specs.Kinds.{IsNode}
use Rattle.itpg_graph.specs.Families.{ValOutside, ValPut, FitCut, FitPut, FitClear, HasPlace}
use Rattle.itpg_graph.specs.Changes.{FitFamily}
use Rattle.itpg_edit.specs.declared.edit.Edit.{Edit}
use Rattle.itpg_edit.specs.declared.edit.Edit.TheVariants as edits
use Rattle.itpg_edit.specs.declared.change.Site.{Site}
use Rattle.itpg_edit.specs.declared.change.Change.{Change}
use Rattle.itpg_edit.specs.declared.change.Change.TheVariants.{Begin, Widen, AddNode, AddEdge, Live, Gone, Put, Clear, Remove}
use Rattle.itpg_edit.specs.Facts.{span_of, IsUnknown, LacksEnd, IsAbsent, IsHeld, AreManySpans, AreManyRuns, AreManyCut, HasNoPlace}
use Rattle.itpg_edit.specs.Rules.{Breaks, NoneOf, FirstOf, Broken, Unbroken, NameBreaks, PlaceBreaks}
use Rattle.itpg_edit.specs.Sites.{EndsExist, IsFree, IsThere}
use Rattle.itpg_edit.specs.Changes.{IsNew, IsNamed, IsSite, IsAsked, IsPlaced, IsFound, Fits}
use Rattle.itpg_edit.proofs.FirstOf.{first_after, none_after}
use Rattle.itpg_graph.proofs.Asked.{into_horizon, out_of_horizon}
use Rattle.itpg_edit.proofs.Moments.{begun_some, not_both}

pub named_stands : (g : Graph) (o : ℕ) (name : Word) → Named g o name → Stands g o
named_stands g o name h = let t = there g.objects o _ h in here g.objects o _ t.0 t.1 t.2.0

-- what a change is about is there, if an edit asks for it
placed : (g : Graph) (id : Word) (site : Site) → IsSite g id site → IsPlaced g site
placed g id site is = record { stands = named_stands g site.object.0 id is.object.named; ordered = is.ordered; inside = is.inside }

pub found : (g : Graph) (edit : Edit) (change : Change) → IsAsked g edit change → IsFound g change
found g edit (Begin name horizon) asked = asked.1
found g edit (Widen horizon) asked = asked.1
found g edit (AddNode id labels) asked = asked.1
found g edit (AddEdge id labels source target) asked = (asked.3, named_stands g source.0 asked.0 asked.4.named, named_stands g target.0 asked.1 asked.5.named)
found g edit (Live site) asked = placed g asked.0 site asked.2
found g edit (Gone site) asked = placed g asked.0 site asked.2
found g edit (Put site prop value) asked = placed g asked.0 site asked.2
found g edit (Clear site prop) asked = placed g asked.0 site asked.2
found g edit (Remove object) asked = named_stands g object.0 asked.0 asked.2.named

-- a rule that a change breaks, in the words of `check`
pub refused : (g : Graph) (change known : Change) (rule first : RuleCode) → change ≡ known → rule ≡ first → ((edit : Edit) → IsAsked g edit known → Broken g edit first)
    → (edit : Edit) → IsAsked g edit change → Broken g edit rule
refused g change known rule first is same broken edit asked = subst (Broken g edit) (sym same) (broken edit (subst (IsAsked g edit) is asked))

-- the same, of the last rule: what is refused is the change that breaks it
pub last : {T : Type 0} {W : Type 0} (g : Graph) (change known : Change) (first : RuleCode) (result : Result T RuleCode) → change ≡ known → IfErr result (λ rule. (rule ≡ first) × W)
    → (W → (edit : Edit) → IsAsked g edit known → Broken g edit first) → IfErr result (λ rule. (edit : Edit) → IsAsked g edit change → Broken g edit rule)
last g change known first (Ok x) is told broken = tt
last g change known first (Err rule) is told broken = refused g change known rule first is told.0 (broken told.1)

-- a node has no ends
no_edge : (g : Graph) (o : ℕ) → IsNode g o → ObjectIs g o (λ x. IsSome x.ends) → ⊥
no_edge g o node edge =
    let a = there g.objects o _ node in
    let b = there g.objects o _ edge in
    none_has (a.0.ends) (subst (λ (x : Object). IsSome x.ends) (same_some _ _ _ b.1 a.1) b.2) a.2.1
  where
    none_has : {X : Type 0} (e : Option X) → IsSome e → e ≡ None → ⊥
    none_has None some none = let never : ⊥ = cc in never
    none_has (Some x) some none = let never : ⊥ = cc in never

-- declaring an object
module _ (g : Graph) (id : Word) (new : IsNew g id) where
  not_taken : ((o : ℕ) × Named g o id) → ⊥
  not_taken taken = new.free taken.0 taken.1

  pub node_full : (labels : List Word) (edit : Edit) → edit ≡ edits.AddNode id labels → MAX_OBJECTS ≤ length g.objects → Broken g edit Full
  node_full labels edit is many = subst (λ e. Broken g e Full) (sym is) (inr (not_both g.begun new.begun, inr (not_taken, inl (many, refl))))

  unknown : (name : Word) (rule : RuleCode) → FirstOf (NameBreaks g name) (NoGraph ∷ Unknown ∷ []) rule → IsUnknown g name × (rule ≡ Unknown)
  unknown name rule (inl none) = absurd (not_both g.begun new.begun none.0)
  unknown name rule (inr some) = ⊎_elim (λ u. u) (λ never. absurd never.1) some.1

  -- an end that isn't found
  pub edge_unknown : (labels : List Word) (s t : Word) (rule : RuleCode) → FirstOf (NameBreaks g s) (NoGraph ∷ Unknown ∷ []) rule ⊎ FirstOf (NameBreaks g t) (NoGraph ∷ Unknown ∷ []) rule
      → Broken g (edits.AddEdge id labels s t) rule
  edge_unknown labels s t rule missing =
      let first : (IsUnknown g s ⊎ IsUnknown g t) × (rule ≡ Unknown) = ⊎_elim (λ a. let u = unknown s rule a in (inl u.0, u.1)) (λ b. let u = unknown t rule b in (inr u.0, u.1)) missing in
      inr (not_both g.begun new.begun, inr (not_taken, inl first))

  module _ (labels : List Word) (s t : Word) (source target : ObjNo) (first : IsNamed g s source) (second : IsNamed g t target) where
    none_missing : NoneOf (Breaks g (edits.AddEdge id labels s t)) (NoGraph ∷ Taken ∷ Unknown ∷ [])
    none_missing = (not_both g.begun new.begun, (not_taken, ((λ missing. ⊎_elim (λ a. a source.0 first.named) (λ b. b target.0 second.named) missing), tt)))

    pub edge_kind : ObjectIs g source.0 (λ x. IsSome x.ends) ⊎ ObjectIs g target.0 (λ x. IsSome x.ends) → Broken g (edits.AddEdge id labels s t) Kind
    edge_kind joins =
        first_after (Breaks g (edits.AddEdge id labels s t)) (NoGraph ∷ Taken ∷ Unknown ∷ []) (Kind ∷ Full ∷ []) Kind none_missing
        (inl (⊎_elim (λ a. inl (source.0, first.named, a)) (λ b. inr (target.0, second.named, b)) joins, refl))

    -- two nodes are no edges
    module _ (from : IsNode g source.0) (to : IsNode g target.0) where
      no_edges : Breaks g (edits.AddEdge id labels s t) Kind → ⊥
      no_edges (inl edge) = no_edge g source.0 from (subst (λ o. ObjectIs g o (λ x. IsSome x.ends)) (first.good.names_differ edge.0 source.0 s edge.1 first.named) edge.2)
      no_edges (inr edge) = no_edge g target.0 to (subst (λ o. ObjectIs g o (λ x. IsSome x.ends)) (second.good.names_differ edge.0 target.0 t edge.1 second.named) edge.2)

      pub edge_full : MAX_OBJECTS ≤ length g.objects → Broken g (edits.AddEdge id labels s t) Full
      edge_full many =
          first_after (Breaks g (edits.AddEdge id labels s t)) (NoGraph ∷ Taken ∷ Unknown ∷ []) (Kind ∷ Full ∷ []) Full none_missing (inr (no_edges, inl (many, refl)))

      edge_unbroken : length g.objects < MAX_OBJECTS → Unbroken g (edits.AddEdge id labels s t)
      edge_unbroken few = none_after (Breaks g (edits.AddEdge id labels s t)) (NoGraph ∷ Taken ∷ Unknown ∷ []) (Kind ∷ Full ∷ []) none_missing (no_edges, ((λ many. omega arith), tt))

-- what an object has over a span
module _ (g : Graph) (id : Word) (site : Site) (is : IsSite g id site) where
  abbrev o : ℕ
  o = site.object.0

  abbrev s : Span
  s = site.span

  abbrev front : List RuleCode
  front = NoGraph ∷ Unknown ∷ Backwards ∷ Horizon ∷ []

  none_placed : NoneOf (PlaceBreaks g id s.from s.to) front
  none_placed = (not_both g.begun is.object.begun, ((λ u. u o is.object.named), ((λ lt. let le = is.ordered in omega (arith, ints)), ((λ l. l.outside (is.inside l.moment l.within)), tt))))

  same : (k : ℕ) → Named g k id → k ≡ o
  same k named = is.object.good.names_differ k o id named is.object.named

  ends_there : EndsExist g o s → LacksEnd g id s → ⊥
  ends_there all l = l.missing (all l.end (subst (λ k. HasEnd g k l.end) (same l.edge l.named) l.has) l.moment l.within)

  pub live_ends : ((a : ℕ) × HasEnd g o a × ((t : ℤ) × Within t s × (Exists g a t → ⊥))) → Broken g (edits.Live id s.from s.to) Ends
  live_ends m =
      first_after (Breaks g (edits.Live id s.from s.to)) front (Ends ∷ Full ∷ []) Ends none_placed
      (inl (record { edge = o; named = is.object.named; end = m.0; has = m.1; moment = m.2.0; within = m.2.1; missing = m.2.2 }, refl))

  pub live_full : EndsExist g o s → AreManySpans (λ t. Exists g o t ⊎ Within t s) → Broken g (edits.Live id s.from s.to) Full
  live_full all many = first_after (Breaks g (edits.Live id s.from s.to)) front (Ends ∷ Full ∷ []) Full none_placed (inr (ends_there all, inl ((o, is.object.named, many), refl)))

  live_unbroken : EndsExist g o s → FitFamily g o s → Unbroken g (edits.Live id s.from s.to)
  live_unbroken all fit = none_after (Breaks g (edits.Live id s.from s.to)) front (Ends ∷ Full ∷ []) none_placed (ends_there all, (not_full, tt))
    where
      not_full : Breaks g (edits.Live id s.from s.to) Full → ⊥
      not_full full =
          let many = subst (λ k. AreManySpans (λ t. Exists g k t ⊎ Within t s)) (same full.0 full.1) full.2 in
          let few = fit many.spans many.are in
          let more = many.many in omega arith

  not_held : IsFree g o s → IsHeld g id s → ⊥
  not_held free h = free h.edge h.moment (subst (HasEnd g h.edge) (same h.node h.named) h.has) h.within h.exists

  pub gone_held : ((e : ℕ) × HasEnd g e o × ((t : ℤ) × Within t s × Exists g e t)) → Broken g (edits.Gone id s.from s.to) Held
  gone_held m =
      first_after (Breaks g (edits.Gone id s.from s.to)) front (Held ∷ Full ∷ []) Held none_placed
      (inl (record { node = o; named = is.object.named; edge = m.0; has = m.1; moment = m.2.0; within = m.2.1; exists = m.2.2 }, refl))

  pub gone_full : IsFree g o s → AreManyCut g o s → Broken g (edits.Gone id s.from s.to) Full
  gone_full free many = first_after (Breaks g (edits.Gone id s.from s.to)) front (Held ∷ Full ∷ []) Full none_placed (inr (not_held free, inl ((o, is.object.named, many), refl)))

  gone_unbroken : IsFree g o s → FitCut g o s → Unbroken g (edits.Gone id s.from s.to)
  gone_unbroken free fit = none_after (Breaks g (edits.Gone id s.from s.to)) front (Held ∷ Full ∷ []) none_placed (not_held free, (not_full, tt))
    where
      not_full : Breaks g (edits.Gone id s.from s.to) Full → ⊥
      not_full full =
          let many = subst (λ k. AreManyCut g k s) (same full.0 full.1) full.2 in
          ⊎_elim (λ m. let n = fit (length m.spans) (inl (m.spans, m.are, refl)) in let more = m.many in omega arith)
          (λ m. let n = fit (length m.1.runs) (inr (m.0, m.1.runs, m.1.are, refl)) in let more = m.1.many in omega arith) many

  not_absent : IsThere g o s → IsAbsent g id s → ⊥
  not_absent all a = a.missing (subst (λ k. Exists g k a.moment) (sym (same a.object a.named)) (all a.moment a.within))

  module _ (prop value : Word) where
    pub put_absent : ((t : ℤ) × Within t s × (Exists g o t → ⊥)) → Broken g (edits.Put id prop value s.from s.to) Absent
    put_absent m =
        first_after (Breaks g (edits.Put id prop value s.from s.to)) front (Absent ∷ Full ∷ []) Absent none_placed
        (inl (record { object = o; named = is.object.named; moment = m.0; within = m.1; missing = m.2 }, refl))

    pub put_full : IsThere g o s → AreManyRuns (ValPut g o s value prop) ⊎ HasNoPlace g o prop → Broken g (edits.Put id prop value s.from s.to) Full
    put_full all many = first_after (Breaks g (edits.Put id prop value s.from s.to)) front (Absent ∷ Full ∷ []) Full none_placed (inr (not_absent all, inl ((o, is.object.named, many), refl)))

    room : HasPlace g o prop → HasNoPlace g o prop → ⊥
    room (inl has) full = full.new has
    room (inr fewer) full =
        let a = there g.objects o _ fewer in
        let b = there g.objects o _ full.many in
        let at_least = subst (λ (x : Object). MAX_PROPERTIES ≤ length x.properties) (same_some _ _ _ b.1 a.1) b.2 in
        let below = a.2 in omega arith

    put_unbroken : IsThere g o s → FitPut g o prop value s → HasPlace g o prop → Unbroken g (edits.Put id prop value s.from s.to)
    put_unbroken all fit has = none_after (Breaks g (edits.Put id prop value s.from s.to)) front (Absent ∷ Full ∷ []) none_placed (not_absent all, (not_full, tt))
      where
        not_full : Breaks g (edits.Put id prop value s.from s.to) Full → ⊥
        not_full full =
            let many = subst (λ k. AreManyRuns (ValPut g k s value prop) ⊎ HasNoPlace g k prop) (same full.0 full.1) full.2 in
            ⊎_elim (λ m. let few = fit m.runs m.are in let more = m.many in omega arith) (λ none. room has none) many

  pub clear_full : (prop : Word) → AreManyRuns (ValOutside g o s prop) → Broken g (edits.Clear id prop s.from s.to) Full
  clear_full prop many = first_after (Breaks g (edits.Clear id prop s.from s.to)) front (Full ∷ []) Full none_placed (inl ((o, is.object.named, many), refl))

  clear_unbroken : (prop : Word) → FitClear g o prop s → Unbroken g (edits.Clear id prop s.from s.to)
  clear_unbroken prop fit = none_after (Breaks g (edits.Clear id prop s.from s.to)) front (Full ∷ []) none_placed (not_full, tt)
    where
      not_full : Breaks g (edits.Clear id prop s.from s.to) Full → ⊥
      not_full full =
          let many = subst (λ k. AreManyRuns (ValOutside g k s prop)) (same full.0 full.1) full.2 in
          let few = fit many.runs many.are in
          let more = many.many in omega arith

pub remove_incident : (g : Graph) (id : Word) (object : ObjNo) → IsNamed g id object → ((e : ℕ) × HasEnd g e object.0) → Broken g (edits.Remove id) Incident
remove_incident g id object is at =
    inr (not_both g.begun is.begun, inr ((λ u. u object.0 is.named), inl (record { node = object.0; named = is.named; edge = at.0; has = at.1 }, refl)))

-- an edit whose change fits breaks no rule
pub unbroken : (g : Graph) (edit : Edit) (change : Change) → IsAsked g edit change → Fits g change → Unbroken g edit
unbroken g edit (Begin name horizon) asked fits = subst (Unbroken g) (sym asked.0) ((λ some. not_both g.begun some asked.1), ((λ lt. let le = asked.2 in omega (arith, ints)), tt))
unbroken g edit (Widen horizon) asked fits = subst (Unbroken g) (sym asked.0) (not_both g.begun asked.1.begun, ((λ lt. let le = asked.1.ordered in omega (arith, ints)), ((λ l. l.outside (asked.1.whole l.moment l.within)), tt)))
unbroken g edit (AddNode id labels) asked fits = subst (Unbroken g) (sym asked.0) (not_both g.begun asked.1.begun, (not_taken g id.now asked.1, ((λ many. omega arith), tt)))
unbroken g edit (AddEdge id labels source target) asked fits = subst (Unbroken g) (sym asked.2) (edge_unbroken g id.now asked.3 labels.now asked.0 asked.1 source target asked.4 asked.5 fits.0 fits.1 fits.2)
unbroken g edit (Live site) asked fits = subst (Unbroken g) (sym asked.1) (live_unbroken g asked.0 site asked.2 fits.0 fits.1)
unbroken g edit (Gone site) asked fits = subst (Unbroken g) (sym asked.1) (gone_unbroken g asked.0 site asked.2 fits.0 fits.1)
unbroken g edit (Put site prop value) asked fits = subst (Unbroken g) (sym asked.1) (put_unbroken g asked.0 site asked.2 prop.now value.now fits.0 fits.1 fits.2)
unbroken g edit (Clear site prop) asked fits = subst (Unbroken g) (sym asked.1) (clear_unbroken g asked.0 site asked.2 prop.now fits)
unbroken g edit (Remove object) asked fits =
    let is = asked.2 in
    subst (Unbroken g) (sym asked.1)
    (not_both g.begun is.begun, ((λ u. u object.0 is.named), ((λ i. fits i.edge (subst (HasEnd g i.edge) (is.good.names_differ i.node object.0 asked.0 i.named is.named) i.has)), tt)))

-- the rules on the site of an edit, in order
module _ (g : Graph) (id : Word) (from to : ℤ) (o : ObjNo) (h span : Span) (good : Good g) (horizon : Some h ≡ option_map (λ b. b.horizon) g.begun) (named : Named g o.0 id) (is : span ≡ span_of from to) (ordered : from ≤ℤ to) where
  pub outside : ((t : ℤ) × Within t span × (Within t h → ⊥)) → FirstOf (PlaceBreaks g id from to) (NoGraph ∷ Unknown ∷ Backwards ∷ Horizon ∷ []) Horizon
  outside l =
      let some = begun_some g.begun h horizon in
      inr (
        (λ none. not_both g.begun some none),
        inr (
          (λ u. u o.0 named),
          inr (
            (λ lt. omega (arith, ints)),
            inl (record { moment = l.0; within = subst (Within l.0) is l.1; outside = λ w. l.2 (out_of_horizon g h l.0 horizon w) }, refl),
          ),
        ),
      )

  pub inside : ((t : ℤ) → Within t span → Within t h) → IsSite g id (record { object = o; span = span })
  inside all = record {
    object = record { good = good; begun = begun_some g.begun h horizon; named = named };
    ordered = subst IsSpan (sym is) ordered;
    inside = λ t w. into_horizon g h t horizon (all t w);
  }

-- some edge of a list that isn't empty
pub some_number : (S : ℕ → Type 0) (xs : List ObjNo) (b : Bool) → AreNumbers S xs → b ≡ (length xs == 0) → not b ≡ true → (e : ℕ) × S e
some_number S [] b are e h = absurd (true≢false (sym h ∙ ap not e))
some_number S (x ∷ rest) b are e h = (x.0, are.only x.0 (inl refl))

-- one more of the objects of a list
pub taken_number : (xs : List ObjNo) (i : ℕ) (d : ObjNo) (e : ℕ) → i < length xs → HasNumber (take (i + 1) xs) e → HasNumber (take i xs) e ⊎ ((get_or xs i d).0 ≡ e)
taken_number [] i d e below h = absurd (omega (arith, below))
taken_number (x ∷ xs) zero d e below h = ⊎_elim (λ own. inr own) (λ none. absurd none) h
taken_number (x ∷ xs) (suc i) d e below h =
    let next : suc i + 1 ≡ suc (i + 1) = omega arith in
    let taken : (x.0 ≡ e) ⊎ HasNumber (take (i + 1) xs) e = subst (λ n. HasNumber (take n (x ∷ xs)) e) next h in
    ⊎_elim (λ own. inl (inl own)) (λ later. ⊎_elim (λ k. inl (inr k)) (λ k. inr k) (taken_number xs i d e (omega (arith, below)) later)) taken
