-- What is decided of a watch that is shown and of a tick, and what is settled once it is told.
use Rattle.std.proofs.Common.{◌≡◌, inl, inr, ℕ, zero, suc, ◌<◌, List, [], ◌∷◌, length, Option, None, Some, refl, sym, ap, subst, ◌∙◌, arith}
use Rattle.std.specs.Prelude.{slice_get, is_some, IsSomeAnd, IfSome}
use Rattle.itpg_base.specs.Graphs.{Graph}
use Rattle.itpg_edit.specs.Rules.{NoneOf}
use Rattle.path_ast.specs.Terms.{QueryTerm}
use Rattle.plan_cache.specs.Nodes.{Table, PlanNode}
use Rattle.relation_rows.specs.Answered.{Answered}
use Rattle.standing_queries.specs.Watches.{Watch, answered_now}
use Rattle.itpg_session.specs.PlainWatches.{PlainWatch, all_plain, marked_at}
use Rattle.itpg_session.specs.Rules.{TickBreaks, tick_rules}
use Rattle.itpg_session.specs.Questions.{HasAnswer}
use Rattle.itpg_session.specs.Replies.{Shown, PerWatch, FindsFor}
use Rattle.itpg_session.specs.Ticks.{Ticked, AreTicked, all_settled, all_moved}
use Rattle.itpg_session.specs.Keeping.{IsWatchRight, AreWatchesRight, IsKeptRight}
use Rattle.itpg_session.specs.Machine.{Machine, Standing, TicksOrNot, after}
use Rattle.itpg_session.specs.Steps.{StandsAs, IsAlike, IsDecided}
use Rattle.itpg_session.proofs.Told.{said_alike}
use Rattle.itpg_session.proofs.TickSteps.{ticked_length}
use Rattle.itpg_session.proofs.Changing.{right_settled}
use Rattle.itpg_session.proofs.Plain.{plain_length, plain_marked, plain_settled, replanned_same}
use Rattle.source_rows.specs.Follows.{Follow}
use Rattle.itpg_pins.specs.Pins.{Held}
use Rattle.itpg_session.specs.PlainPins.{plain_pins}
use Rattle.itpg_session.specs.PlainFollows.{plain_follows}
use Rattle.itpg_session.specs.Machine.{stood}

-- a place at which something stands is one of the list
place_within : {X : Type 0} (xs : List X) (i : ℕ) (P : X → Type 0) → IsSomeAnd (slice_get xs i) P → i < length xs
place_within [] i P h = absurd h
place_within (x ∷ xs) zero P h = omega arith
place_within (x ∷ xs) (suc i) P h = let l = place_within xs i P h in omega (arith, l)

module _ (g : Graph) (limit : ℕ) where
  -- what is found for the query of the watch at a place
  pub found_at : (ws : List Watch) (i : ℕ) (q : QueryTerm) (found : Option Answered) → IsSomeAnd (slice_get ws i) (λ w. w.query ≡ q) → FindsFor g limit q found
      → IsSomeAnd (slice_get (all_plain ws) i) (λ w. FindsFor g limit w.query found)
  found_at [] i q found asks finds = absurd asks
  found_at (w ∷ ws) zero q found asks finds = subst (λ (r : QueryTerm). FindsFor g limit r found) (sym asks) finds
  found_at (w ∷ ws) (suc i) q found asks finds = found_at ws i q found asks finds

  kept_found : (q : QueryTerm) (found : Option Answered) → FindsFor g limit q found → IfSome found (HasAnswer g limit q)
  kept_found q None finds = tt
  kept_found q (Some answer) finds = finds

  -- what was found for a watch is kept: its answer, or none
  now_right : (nodes : List PlanNode) (i : ℕ) (found : Option Answered) (ws : List Watch) → AreWatchesRight g limit nodes ws → IsSomeAnd (slice_get (all_plain ws) i) (λ w. FindsFor g limit w.query found)
      → AreWatchesRight g limit nodes (answered_now i found ws)
  now_right nodes i found [] right h v a = absurd a
  now_right nodes zero found (w ∷ ws) right h v (inl e) =
      let r = right w (inl refl) in
      subst (IsWatchRight g limit nodes) e (record { planned = r.planned; footed = r.footed; declared = r.declared; answered = kept_found w.query found h })
  now_right nodes zero found (w ∷ ws) right h v (inr a) = right v (inr a)
  now_right nodes (suc i) found (w ∷ ws) right h v (inl e) = right v (inl e)
  now_right nodes (suc i) found (w ∷ ws) right h v (inr a) = now_right nodes i found ws (λ u b. right u (inr b)) h v a

  module _ (table : Table) (ws vs : List Watch) (right : IsKeptRight g limit table ws) where
    pub shown_right : (i : ℕ) (found : Option Answered) → vs ≡ answered_now i found ws → IsSomeAnd (slice_get (all_plain ws) i) (λ w. FindsFor g limit w.query found) → IsKeptRight g limit table vs
    shown_right i found is finds = record {
      table_right = right.table_right;
      watches_right = subst (AreWatchesRight g limit table.nodes) (sym is) (now_right table.nodes i found ws right.watches_right finds);
    }

    pub ticked_right : (found : List Ticked) → vs ≡ all_settled ws found → AreTicked g limit (all_plain ws) found → IsKeptRight g limit table vs
    ticked_right found is finds = record {
      table_right = right.table_right;
      watches_right = subst (AreWatchesRight g limit table.nodes) (sym is) (right_settled g limit table.nodes ws found right.watches_right finds);
    }

  pub shown_there : (ws : List Watch) (i : ℕ) (found : Option Answered) → IsSomeAnd (slice_get (all_plain ws) i) (λ w. FindsFor g limit w.query found) → i < length ws
  shown_there ws i found finds = let l = place_within (all_plain ws) i (λ w. FindsFor g limit w.query found) finds in let e = plain_length ws in omega (arith, l, e)

  pub as_many_ticked : (ws : List Watch) (found : List Ticked) → AreTicked g limit (all_plain ws) found → length found ≡ length ws
  as_many_ticked ws found finds = ticked_length g limit (all_plain ws) found finds ∙ plain_length ws

module _ (g : Graph) (limit : ℕ) (table : Table) (ws : List Watch) (ps : List Held) (fs : List Follow) (now : Standing) (view : stood g limit table ws ps fs ≡ now) where
  -- relations were kept, and nothing else
  pub worked_alike : (left : Table) → IsAlike now (stood g limit left ws ps fs)
  worked_alike left = subst (λ (s : Standing). IsAlike s (stood g limit left ws ps fs)) view (record { machine = refl; limit = refl; watches = replanned_same ws })

  pub told_tick : (left : Table) (found : List Ticked) → NoneOf (TickBreaks g) tick_rules → AreTicked g limit (all_plain ws) found → IsDecided (TicksOrNot now.limit now.machine) now (stood g limit left ws ps fs) (PerWatch found)
  told_tick left found unbroken finds =
      subst (λ (s : Standing). IsDecided (TicksOrNot s.limit s.machine) s (stood g limit left ws ps fs) (PerWatch found)) view
      (said_alike (stood g limit table ws ps fs) (stood g limit left ws ps fs) (PerWatch found) (record { machine = refl; limit = refl; watches = replanned_same ws })
      (inr (record { unbroken = unbroken; found = found; finds = finds; is = refl })))

  -- the session after a watch is shown, and after a tick
  stands_with : (vs : List Watch) (us : List PlainWatch) → all_plain vs ≡ us → StandsAs (stood g limit table vs ps fs) (record { graph = g; watches = us; pins = plain_pins ps; follows = plain_follows fs }) limit
  stands_with vs us is = record { machine = ap (λ (xs : List PlainWatch). let m : Machine = record { graph = g; watches = xs; pins = plain_pins ps; follows = plain_follows fs } in m) is; limit = refl }

  pub shown_stands : (vs : List Watch) (i : ℕ) (found : Option Answered) → vs ≡ answered_now i found ws → StandsAs (stood g limit table vs ps fs) (after now.machine (Shown i found)) now.limit
  shown_stands vs i found is =
      subst (λ (s : Standing). StandsAs (stood g limit table vs ps fs) (after s.machine (Shown i found)) s.limit) view
      (stands_with vs (marked_at i (is_some found) (all_plain ws)) (ap all_plain is ∙ plain_marked ws i found))

  pub ticked_stands : (vs : List Watch) (found : List Ticked) → vs ≡ all_settled ws found → StandsAs (stood g limit table vs ps fs) (after now.machine (PerWatch found)) now.limit
  ticked_stands vs found is =
      subst (λ (s : Standing). StandsAs (stood g limit table vs ps fs) (after s.machine (PerWatch found)) s.limit) view
      (stands_with vs (all_moved (all_plain ws) found) (ap all_plain is ∙ plain_settled ws found))
