-- A horizon that grows leaves a good store.
use Rattle.std.proofs.Common.{◌≡◌, ℤ, List, Option, Some, None, refl}
use Rattle.std.specs.Prelude.{IsSomeAnd, IfSome, option_map}
use Rattle.itpg_base.specs.Spans.{Span, IsSpan, IsMoment, Within}
use Rattle.itpg_base.specs.Graphs.{Graph, Begun, Good, IsBegun, InHorizon}
use Rattle.itpg_base.specs.declared.object_number.ObjNo.{ObjNo}
use Rattle.itpg_graph.specs.Changes.{widened}
use Rattle.itpg_graph.specs.Stores.{Table, IsStore}

module _ (g : Graph) (horizon : Span) (span : IsSpan horizon) (from : IsMoment horizon.from) (to : IsMoment horizon.to) (wider : (t : ℤ) → InHorizon g t → Within t horizon) where
  abbrev wide : Option Begun → Option Begun
  wide b = option_map (λ (b : Begun). record b { horizon = horizon }) b

  within : (b : Option Begun) (t : ℤ) → IsSomeAnd b (λ b. Within t b.horizon) → Within t horizon → IsSomeAnd (wide b) (λ b. Within t b.horizon)
  within None t h w = h
  within (Some b) t h w = w

  is_begun : (b : Option Begun) → IfSome (wide b) IsBegun
  is_begun None = tt
  is_begun (Some b) = record { span = span; from = from; to = to }

  not_begun : (b : Option Begun) → wide b ≡ None → b ≡ None
  not_begun None e = refl
  not_begun (Some b) e = let never : ⊥ = cc in absurd never

  pub good_widened : Good g → Good (widened g horizon)
  good_widened good = record {
    ends_exist = good.ends_exist;
    values_exist = good.values_exist;
    ends_stand = good.ends_stand;
    names_differ = good.names_differ;
    inside = λ o t exists. let p = good.inside o t exists in record { stands = p.stands; within = within g.begun t p.within (wider t p.within) };
    objects = good.objects;
    few = good.few;
    begun = is_begun g.begun;
    unbegun = λ e. good.unbegun (not_begun g.begun e);
  }

  pub widened_store : (numbers : Table) (out into : List (List ObjNo)) → IsStore g numbers out into → IsStore (widened g horizon) numbers out into
  widened_store numbers out into store = record {
    good = good_widened store.good;
    indexed = record { whole = store.indexed.whole; only = store.indexed.only };
    sources = record { each = store.sources.each; count = store.sources.count };
    targets = record { each = store.targets.each; count = store.targets.count };
  }
