-- Whether a span has each moment of the horizon.
use Rattle.std.proofs.Common.{◌≡◌, ℤ, ◌≤ℤ◌, inl, inr, Option, Some, None, refl, sym, subst, arith}
use Rattle.std.specs.Prelude.{IsSomeAnd, option_map}
use Rattle.std.proofs.lemmas.Int.{ints}
use Rattle.itpg_base.specs.Spans.{Span, IsSpan, Within}
use Rattle.itpg_base.specs.Decided.{Decided}
use Rattle.itpg_base.specs.Graphs.{Graph, Begun, InHorizon}
use Rattle.itpg_base.specs.declared.rule_code.RuleCode.TheVariants.{Narrow}
use Rattle.itpg_base.proofs.Searches.{fails, as_well}
use Rattle.interval_set.proofs.Coalesced.{decide_within}
use Rattle.itpg_graph.proofs.Asked.{into_horizon, out_of_horizon}
use Rattle.itpg_edit.specs.declared.edit.Edit.TheVariants as edits
use Rattle.itpg_edit.specs.Facts.{span_of, LosesMoment}
use Rattle.itpg_edit.specs.Rules.{Broken}
use Rattle.itpg_edit.specs.Changes.{IsWider}
use Rattle.itpg_edit.proofs.Moments.{some_moment, begun_some, not_both}

pub decide_loses : (g : Graph) (s : Span) → Decided (LosesMoment g s)
decide_loses g s = as_well (λ h. record { moment = h.0; within = h.1; outside = h.2 }) (λ l. (l.moment, l.within, l.outside)) (by_begun g.begun)
  where
    by_begun : (b : Option Begun) → Decided ((t : ℤ) × IsSomeAnd b (λ b. Within t b.horizon) × (Within t s → ⊥))
    by_begun None = inr (λ h. h.1)
    by_begun (Some b) = some_moment b.horizon (λ t. Within t s → ⊥) (λ t. fails (decide_within s t))

-- a span that loses no moment has each
pub keeps_moments : (g : Graph) (s : Span) → (LosesMoment g s → ⊥) → (t : ℤ) → InHorizon g t → Within t s
keeps_moments g s never t h = elim (decide_within s t) [ inl w ↦ w | inr outside ↦ absurd (never (record { moment = t; within = h; outside = outside })) ]

-- the horizon of a graph, and the span of two moments in order
module _ (g : Graph) (lo hi : ℤ) (h span : Span) (horizon : Some h ≡ option_map (λ b. b.horizon) g.begun) (is : span ≡ span_of lo hi) (ordered : lo ≤ℤ hi) where
  pub narrow : ((t : ℤ) × Within t h × (Within t span → ⊥)) → Broken g (edits.Extend lo hi) Narrow
  narrow l =
      let some = begun_some g.begun h horizon in
      inr (
        (λ none. not_both g.begun some none),
        inr (
          (λ lt. omega (arith, ints)),
          inl (record { moment = l.0; within = into_horizon g h l.0 horizon l.1; outside = λ w. l.2 (subst (Within l.0) (sym is) w) }, refl),
        ),
      )

  pub wider : ((t : ℤ) → Within t h → Within t span) → IsWider g span
  wider all = record {
    begun = begun_some g.begun h horizon;
    ordered = subst IsSpan (sym is) ordered;
    whole = λ t w. all t (out_of_horizon g h t horizon w);
  }
