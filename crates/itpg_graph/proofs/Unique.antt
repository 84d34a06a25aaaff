-- Each change leaves one graph.
use Rattle.std.proofs.Common.{◌≡◌, ℕ, sym, ap, ◌∙◌}
use Rattle.itpg_base.specs.Words.{Word}
use Rattle.itpg_base.specs.Spans.{Span}
use Rattle.itpg_base.specs.Graphs.{Graph}
use Rattle.interval_set.proofs.Unique.{runs_unique}
use Rattle.itpg_graph.specs.Changes.{with_object, with_live, with_properties, JoinsLive, CutsLive, PutsValue, ClearsValue}
use Rattle.itpg_graph.proofs.Families.{properties_unique}

pub joins_one : (g : Graph) (o : ℕ) (s : Span) (a b : Graph) → JoinsLive g o s a → JoinsLive g o s b → a ≡ b
joins_one g o s a b x y = x.is ∙ ap (with_live g o) (runs_unique _ x.live y.live x.runs y.runs) ∙ sym y.is

pub cuts_one : (g : Graph) (o : ℕ) (s : Span) (a b : Graph) → CutsLive g o s a → CutsLive g o s b → a ≡ b
cuts_one g o s a b x y =
    x.is ∙ ap (λ live. with_object g o (λ z. record z { live = live; properties = x.properties })) (runs_unique _ x.live y.live x.runs y.runs)
    ∙ ap (λ properties. with_object g o (λ z. record z { live = y.live; properties = properties })) (properties_unique _ x.properties y.properties x.values y.values) ∙ sym y.is

pub puts_one : (g : Graph) (o : ℕ) (name value : Word) (s : Span) (a b : Graph) → PutsValue g o name value s a → PutsValue g o name value s b → a ≡ b
puts_one g o name value s a b x y = x.is ∙ ap (with_properties g o) (properties_unique _ x.properties y.properties x.values y.values) ∙ sym y.is

pub clears_one : (g : Graph) (o : ℕ) (name : Word) (s : Span) (a b : Graph) → ClearsValue g o name s a → ClearsValue g o name s b → a ≡ b
clears_one g o name s a b x y = x.is ∙ ap (with_properties g o) (properties_unique _ x.properties y.properties x.values y.values) ∙ sym y.is
