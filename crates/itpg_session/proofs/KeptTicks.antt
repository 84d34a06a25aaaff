-- What was worked out for the watches of a tick is kept, and stays so while more is worked out.
use Rattle.std.proofs.Common.{◌≡◌, inl, inr, ℕ, zero, suc, ◌+◌, ◌≤◌, List, [], ◌∷◌, ◌++◌, length, take, map, None, Some, refl, sym, ap, subst, arith}
use Rattle.std.specs.Prelude.{slice_get, IsSomeAnd}
use Rattle.std.proofs.lemmas.List.{map-append}
use Rattle.itpg_base.specs.Graphs.{Graph}
use Rattle.path_ast.specs.Terms.{PathTerm}
use Rattle.label_scope.specs.declared.scope.Scope.TheVariants.{All}
use Rattle.plan_cache.specs.Nodes.{PlanNode, Kept, Table, IsNodeOf, narrowed_member}
use Rattle.plan_cache.specs.KeptRows.{rows_in, rows_kept, Stays}
use Rattle.path_eval.specs.Keeping.{KeptOrFull}
use Rattle.standing_queries.specs.Watches.{Watch}
use Rattle.itpg_session.specs.declared.ticking.Ticked.{Ticked as TickedValue}
use Rattle.itpg_session.specs.PlainWatches.{PlainWatch, plain, all_plain}
use Rattle.itpg_session.specs.Ticks.{Ticked, StaysWide, Moves, ticked_of, AreTicked}
use Rattle.itpg_session.specs.Keeping.{IsWorked, KeepsPath, KeepsTicked, KeepAllTicked}
use Rattle.itpg_session.proofs.Plain.{said_plain}

-- ---- while more is worked out

-- where what was kept stays, no fewer rows are kept
rows_rise : (old new : List Kept) → Stays old new → rows_kept old ≤ rows_kept new
rows_rise [] new stays = omega arith
rows_rise (None ∷ old) [] stays = let rest = rows_rise old [] (λ n rows e. stays (suc n) rows e) in omega arith
rows_rise (None ∷ old) (k ∷ new) stays = let rest = rows_rise old new (λ n rows e. stays (suc n) rows e) in omega arith
rows_rise (Some rows ∷ old) [] stays = absurd (let e = stays zero rows refl in let none : ⊥ = cc in none)
rows_rise (Some rows ∷ old) (k ∷ new) stays =
    let e = stays zero rows refl in
    let is : k ≡ Some rows = cc in
    let many : rows_in k ≡ length rows = ap rows_in is in
    let rest = rows_rise old new (λ n more f. stays (suc n) more f) in
    omega arith

module _ (g : Graph) (old new : Table) (worked : IsWorked old new) where
  still_kept : (p : PathTerm) → KeepsPath g p old → KeepsPath g p new
  still_kept p h = record {
    number = h.number;
    node = subst (λ (v : List PlanNode). IsNodeOf v h.number (narrowed_member p All All)) (sym worked.nodes) h.node;
    kept = still h.kept;
  }
    where
      still : KeptOrFull g old.kept h.number (narrowed_member p All All) → KeptOrFull g new.kept h.number (narrowed_member p All All)
      still (inl f) = inl (f.0, worked.stays h.number f.0 f.1)
      still (inr f) = inr (λ rows normal. let more = rows_rise old.kept new.kept worked.stays in let full = f rows normal in omega arith)

  still_ticked : (w : PlainWatch) (x : Ticked) → KeepsTicked g old w x → KeepsTicked g new w x
  still_ticked w (StaysWide name) h = tt
  still_ticked w (Moves name now gained lost) (inl fresh) = inl fresh
  still_ticked w (Moves name now gained lost) (inr kept) = inr (still_kept w.query.path kept)

  still_all : (ws : List PlainWatch) (xs : List Ticked) → KeepAllTicked g old ws xs → KeepAllTicked g new ws xs
  still_all [] xs h = tt
  still_all (w ∷ ws) [] h = tt
  still_all (w ∷ ws) (x ∷ xs) h = (still_ticked w x h.0, still_all ws xs h.1)

-- ---- one watch more

kept_more : (g : Graph) (limit : ℕ) (table : Table) (ws : List PlainWatch) (i : ℕ) (xs : List Ticked) (x : Ticked) → AreTicked g limit (take i ws) xs → KeepAllTicked g table (take i ws) xs
    → IsSomeAnd (slice_get ws i) (λ w. KeepsTicked g table w x) → KeepAllTicked g table (take (suc i) ws) (xs ++ x ∷ [])
kept_more g limit table [] i xs x are kept h = absurd h
kept_more g limit table (w ∷ ws) zero [] x are kept h = (h, tt)
kept_more g limit table (w ∷ ws) zero (y ∷ ys) x are kept h = absurd are
kept_more g limit table (w ∷ ws) (suc i) [] x are kept h = absurd are
kept_more g limit table (w ∷ ws) (suc i) (y ∷ ys) x are kept h = (kept.0, kept_more g limit table ws i ys x are.1 kept.1 h)

pub kept_step : (g : Graph) (limit : ℕ) (old table : Table) (ws : List Watch) (i : ℕ) (items new : List TickedValue) (x : TickedValue) → IsWorked old table
    → AreTicked g limit (take i (all_plain ws)) (map ticked_of items) → KeepAllTicked g old (take i (all_plain ws)) (map ticked_of items)
    → IsSomeAnd (slice_get ws i) (λ w. KeepsTicked g table (plain w) (ticked_of x)) → new ≡ items ++ x ∷ [] → KeepAllTicked g table (take (i + 1) (all_plain ws)) (map ticked_of new)
kept_step g limit old table ws i items new x worked are kept h e =
    let next : suc i ≡ i + 1 = omega arith in
    let before = still_all g old table worked (take i (all_plain ws)) (map ticked_of items) kept in
    let more = kept_more g limit table (all_plain ws) i (map ticked_of items) (ticked_of x) are before (said_plain (λ w. KeepsTicked g table w (ticked_of x)) ws i h) in
    subst (λ (xs : List TickedValue). KeepAllTicked g table (take (i + 1) (all_plain ws)) (map ticked_of xs)) (sym e)
    (subst (λ (ys : List Ticked). KeepAllTicked g table (take (i + 1) (all_plain ws)) ys) (sym (map-append ticked_of items (x ∷ [])))
    (subst (λ (k : ℕ). KeepAllTicked g table (take k (all_plain ws)) (map ticked_of items ++ ticked_of x ∷ [])) next more))
