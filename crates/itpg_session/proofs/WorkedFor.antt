-- What is kept where answers of watches are worked out.
use Rattle.std.proofs.Common.{◌≡◌, inl, inr, ℕ, List, [], ◌∷◌, Option, None, Some, Bool, true, false, zero, suc, refl, sym, ap, subst}
use Rattle.std.specs.Prelude.{slice_get, is_some, IsSomeAnd}
use Rattle.itpg_base.specs.Words.{Word}
use Rattle.itpg_base.specs.Lists.{Among}
use Rattle.path_ast.specs.Terms.{QueryTerm}
use Rattle.label_scope.specs.declared.scope.Scope.TheVariants.{All}
use Rattle.plan_cache.specs.Nodes.{PlanNode, Table, IsNodeOf, narrowed_member}
use Rattle.path_eval.specs.Keeping.{KeepsOnlyReached}
use Rattle.standing_queries.specs.Watches.{Watch}
use Rattle.itpg_session.specs.PlainWatches.{PlainWatch, IsFresh, plain, all_plain}
use Rattle.itpg_session.specs.Keeping.{IsWorked, IsUnderPath, IsWorkedFor, IsStale}
use Rattle.itpg_session.proofs.Accepting.{worked_none}
use Rattle.itpg_session.proofs.Adding.{reached_under}
use Rattle.itpg_session.proofs.Found.{worked_again}

pub none_for : (Holds : PlainWatch → Type 0) (table : Table) → IsWorkedFor Holds table table
none_for Holds table = record { worked = worked_none table; only = λ k rows at. inl at }

-- what is found for a watch of which it holds
pub found_for : (Holds : PlainWatch → Type 0) (old new : Table) (number : ℕ) (w : PlainWatch) → Holds w → IsNodeOf old.nodes number (narrowed_member w.query.path All All)
    → IsWorked old new → KeepsOnlyReached old number new.kept → IsWorkedFor Holds old new
found_for Holds old new number w holds node worked only = record {
  worked = worked;
  only = λ k rows at. elim (only k rows at) [
    | inl was ↦ inl was
    | inr reached ↦ inr (record {
      watch = w;
      holds = holds;
      under = subst (λ (nodes : List PlanNode). IsUnderPath nodes w.query.path k) (sym worked.nodes)
          (number, node, (number, inl refl, (reached.0, reached_under old.nodes old.kept number reached.0 k reached.1)));
    })
  ];
}

pub again_for : (Holds : PlainWatch → Type 0) (a b c : Table) → IsWorkedFor Holds a b → IsWorkedFor Holds b c → IsWorkedFor Holds a c
again_for Holds a b c first second = record {
  worked = worked_again a b c first.worked second.worked;
  only = λ k rows at. elim (second.only k rows at) [
    | inl was ↦ elim (first.only k rows was) [
      | inl before ↦ inl before
      | inr some ↦ inr (record {
        watch = some.watch;
        holds = some.holds;
        under = subst (λ (nodes : List PlanNode). IsUnderPath nodes some.watch.query.path k) (sym second.worked.nodes) some.under;
      })
    ]
    | inr some ↦ inr some
  ];
}

pub for_all : (Holds Also : PlainWatch → Type 0) (old new : Table) → ((w : PlainWatch) → Holds w → Also w) → IsWorkedFor Holds old new → IsWorkedFor Also old new
for_all Holds Also old new more is = record {
  worked = is.worked;
  only = λ k rows at. elim (is.only k rows at) [
    | inl was ↦ inl was
    | inr some ↦ inr (record { watch = some.watch; holds = more some.watch some.holds; under = some.under })
  ];
}

-- a watch at a place of which no answer is kept isn't fresh
pub stale_at : (ws : List Watch) (place : ℕ) (q : QueryTerm) → IsSomeAnd (slice_get ws place) (λ w. w.now ≡ None) → IsSomeAnd (slice_get ws place) (λ w. w.query ≡ q)
    → (w : PlainWatch) × IsStale (all_plain ws) w × (w.query ≡ q)
stale_at [] place q none asks = absurd none
stale_at (w ∷ ws) zero q none asks = (plain w, (inl refl, ap is_some none), asks)
stale_at (w ∷ ws) (suc place) q none asks = let more = stale_at ws place q none asks in (more.0, (inr more.1.0, more.1.1), more.2)

-- the watch at a place asks this
pub asking_at : (ws : List Watch) (place : ℕ) (q : QueryTerm) → IsSomeAnd (slice_get ws place) (λ w. w.query ≡ q) → (w : PlainWatch) × (slice_get (all_plain ws) place ≡ Some w) × (w.query ≡ q)
asking_at [] place q asks = absurd asks
asking_at (w ∷ ws) zero q asks = (plain w, refl, asks)
asking_at (w ∷ ws) (suc place) q asks = asking_at ws place q asks

-- and is among the watches
pub plain_at : (ws : List PlainWatch) (place : ℕ) (w : PlainWatch) → slice_get ws place ≡ Some w → Among ws w
plain_at [] place w is = absurd (let none : ⊥ = cc in none)
plain_at (v ∷ ws) zero w is = inl (let same : v ≡ w = cc in same)
plain_at (v ∷ ws) (suc place) w is = inr (plain_at ws place w is)

not_true : (b : Bool) → (b ≡ true → ⊥) → b ≡ false
not_true true never = absurd (never refl)
not_true false never = refl

-- of watches of which none with the name is fresh, the one at a place that has the name is stale
pub named_stale : (ws : List PlainWatch) (name : Word) (place : ℕ) → (IsFresh ws name → ⊥) → IsSomeAnd (slice_get ws place) (λ w. w.name ≡ name) → (w : PlainWatch) → slice_get ws place ≡ Some w
    → IsStale ws w × (w.name ≡ name)
named_stale ws name place none named w at =
    let among = plain_at ws place w at in
    let own : w.name ≡ name = subst (λ (o : Option PlainWatch). IsSomeAnd o (λ v. v.name ≡ name)) at named in
    ((among, not_true w.fresh (λ fresh. none (w, among, own, fresh))), own)
