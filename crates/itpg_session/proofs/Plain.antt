-- What the plain machine has of the watches that stand: the same changes lead to it from either.
use Rattle.std.proofs.Common.{◌≡◌, inl, inr, ℕ, zero, suc, List, [], ◌∷◌, ◌++◌, length, Option, Some, refl, sym, ◌∙◌, ap, subst}
use Rattle.std.specs.Prelude.{nat_eq, slice_get, option_map, is_some, IsSomeAnd}
use Rattle.std.specs.Cmp.Lexicographic.{pointwise}
use Rattle.std.proofs.lemmas.List.{map-append}
use Rattle.itpg_base.specs.Words.{Word}
use Rattle.itpg_base.specs.Graphs.{changed_at}
use Rattle.itpg_base.specs.Lists.{Among}
use Rattle.itpg_base.specs.declared.touch.Touch.{Touch}
use Rattle.label_scope.specs.declared.footprint.Footprint.{Footprint}
use Rattle.label_scope.specs.declared.scope.Scope.TheVariants.{All}
use Rattle.label_scope.specs.Footprints.{footprint}
use Rattle.label_scope.specs.Touching.{Meets}
use Rattle.relation_rows.specs.Answered.{Answered}
use Rattle.standing_queries.specs.Watches.{Watch, answered_now, without, IsWatched as IsWatchedThere, IsFresh as IsFreshThere}
use Rattle.standing_queries.specs.Touched.{IsTouched, AreTouched}
use Rattle.itpg_session.specs.PlainWatches.{PlainWatch, plain, all_plain, marked_at, without as plain_but, IsWatched, IsFresh, IsMarkedAfter, AreMarkedAfter}
use Rattle.itpg_session.specs.Keeping.{IsReplanned, AreReplanned}
use Rattle.itpg_session.proofs.NamedLists.{map_length, map_choice, map_among, among_map, found_at}
use Rattle.itpg_session.specs.Ticks.{Ticked, StaysWide, Moves, settled, all_settled, moved, all_moved}

-- ---- lists of them

pub plain_append : (ws vs : List Watch) → all_plain (ws ++ vs) ≡ all_plain ws ++ all_plain vs
plain_append ws vs = map-append plain ws vs

pub plain_length : (ws : List Watch) → length (all_plain ws) ≡ length ws
plain_length ws = map_length plain ws

pub plain_without : (name : Word) (ws : List Watch) → all_plain (without name ws) ≡ plain_but name (all_plain ws)
plain_without name [] = refl
plain_without name (w ∷ ws) = map_choice plain (pointwise nat_eq w.name name) w (without name ws) (plain_but name (all_plain ws)) (plain_without name ws)

-- ---- what stands at a place

pub plain_get : (ws : List Watch) (i : ℕ) → slice_get (all_plain ws) i ≡ option_map plain (slice_get ws i)
plain_get [] i = refl
plain_get (w ∷ ws) zero = refl
plain_get (w ∷ ws) (suc i) = plain_get ws i

pub plain_at : (ws : List Watch) (i : ℕ) (w : Watch) → slice_get ws i ≡ Some w → slice_get (all_plain ws) i ≡ Some (plain w)
plain_at ws i w e = plain_get ws i ∙ ap (option_map plain) e

-- what is said of the machine's watch at a place, and of the one that stands there
pub said_plain : (P : PlainWatch → Type 0) (ws : List Watch) (i : ℕ) → IsSomeAnd (slice_get ws i) (λ w. P (plain w)) → IsSomeAnd (slice_get (all_plain ws) i) P
said_plain P [] i h = absurd h
said_plain P (w ∷ ws) zero h = h
said_plain P (w ∷ ws) (suc i) h = said_plain P ws i h

pub said_standing : (P : PlainWatch → Type 0) (ws : List Watch) (i : ℕ) → IsSomeAnd (slice_get (all_plain ws) i) P → IsSomeAnd (slice_get ws i) (λ w. P (plain w))
said_standing P [] i h = absurd h
said_standing P (w ∷ ws) zero h = h
said_standing P (w ∷ ws) (suc i) h = said_standing P ws i h

-- the watch that the machine's watch at a place is of
pub plain_of : (ws : List Watch) (i : ℕ) (v : PlainWatch) → slice_get (all_plain ws) i ≡ Some v → (w : Watch) × Among ws w × (slice_get ws i ≡ Some w) × (plain w ≡ v)
plain_of ws i v e = found_at (λ w. plain w ≡ v) ws i (said_standing (λ p. p ≡ v) ws i (subst (λ o. IsSomeAnd o (λ p. p ≡ v)) (sym e) refl))

pub plain_among : (ws : List Watch) (w : Watch) → Among ws w → Among (all_plain ws) (plain w)
plain_among ws w a = map_among plain ws w a

pub among_plain : (ws : List Watch) (v : PlainWatch) → Among (all_plain ws) v → (w : Watch) × Among ws w × (plain w ≡ v)
among_plain ws v a = among_map plain ws v a

pub each_plain : (P : PlainWatch → Type 0) (ws : List Watch) → ((w : Watch) → Among ws w → P (plain w)) → (v : PlainWatch) → Among (all_plain ws) v → P v
each_plain P ws all v a = let r = among_plain ws v a in subst P r.2 (all r.0 r.1)

-- ---- names and marks

pub plain_watched : (ws : List Watch) (name : Word) → IsWatchedThere ws name → IsWatched (all_plain ws) name
plain_watched ws name (w, a, e) = (plain w, plain_among ws w a, e)

pub watched_plain : (ws : List Watch) (name : Word) → IsWatched (all_plain ws) name → IsWatchedThere ws name
watched_plain ws name (v, a, e) = let r = among_plain ws v a in (r.0, r.1, ap (λ (p : PlainWatch). p.name) r.2 ∙ e)

pub plain_fresh : (ws : List Watch) (name : Word) → IsFreshThere ws name → IsFresh (all_plain ws) name
plain_fresh ws name (w, a, e, some) = (plain w, plain_among ws w a, e, some)

pub fresh_plain : (ws : List Watch) (name : Word) → IsFresh (all_plain ws) name → IsFreshThere ws name
fresh_plain ws name (v, a, e, fresh) = let r = among_plain ws v a in (r.0, r.1, ap (λ (p : PlainWatch). p.name) r.2 ∙ e, ap (λ (p : PlainWatch). p.fresh) r.2 ∙ fresh)

-- ---- one watch is changed

pub plain_changed : (ws : List Watch) (i : ℕ) (f : Watch → Watch) (h : PlainWatch → PlainWatch) → ((w : Watch) → plain (f w) ≡ h (plain w)) → all_plain (changed_at ws i f) ≡ changed_at (all_plain ws) i h
plain_changed [] i f h e = refl
plain_changed (w ∷ ws) zero f h e = ap (λ (v : PlainWatch). v ∷ all_plain ws) (e w)
plain_changed (w ∷ ws) (suc i) f h e = ap (λ (vs : List PlainWatch). plain w ∷ vs) (plain_changed ws i f h e)

pub plain_marked : (ws : List Watch) (i : ℕ) (now : Option Answered) → all_plain (answered_now i now ws) ≡ marked_at i (is_some now) (all_plain ws)
plain_marked ws i now = plain_changed ws i (λ w. record w { now = now }) (λ w. record w { fresh = is_some now }) (λ w. refl)

-- ---- a tick

one_settled : (w : Watch) (x : Ticked) → plain (settled w x) ≡ moved (plain w) x
one_settled w (StaysWide name) = refl
one_settled w (Moves name now gained lost) = refl

pub plain_settled : (ws : List Watch) (xs : List Ticked) → all_plain (all_settled ws xs) ≡ all_moved (all_plain ws) xs
plain_settled [] xs = refl
plain_settled (w ∷ ws) [] = refl
plain_settled (w ∷ ws) (x ∷ xs) = ap (λ (v : PlainWatch). v ∷ all_plain (all_settled ws xs)) (one_settled w x) ∙ ap (λ (vs : List PlainWatch). moved (plain w) x ∷ vs) (plain_settled ws xs)

-- ---- new plans

pub plain_replanned : (old new : List Watch) → AreReplanned old new → all_plain new ≡ all_plain old
plain_replanned [] [] h = refl
plain_replanned [] (v ∷ new) h = absurd h
plain_replanned (w ∷ old) [] h = absurd h
plain_replanned (w ∷ old) (v ∷ new) h = ap (λ (p : PlainWatch). p ∷ all_plain new) (ap plain h.0) ∙ ap (λ (ps : List PlainWatch). plain w ∷ ps) (plain_replanned old new h.1)

pub replanned_same : (ws : List Watch) → AreReplanned ws ws
replanned_same [] = tt
replanned_same (w ∷ ws) = (refl, replanned_same ws)

pub replanned_again : (a b c : List Watch) → AreReplanned a b → AreReplanned b c → AreReplanned a c
replanned_again [] [] c h k = k
replanned_again [] (v ∷ b) c h k = absurd h
replanned_again (w ∷ a) [] c h k = absurd h
replanned_again (w ∷ a) (v ∷ b) [] h k = absurd k
replanned_again (w ∷ a) (v ∷ b) (u ∷ c) h k = (k.0 ∙ ap (λ (x : Watch). record x { plan = u.plan }) h.0, replanned_again a b c h.1 k.1)

-- each of the new watches is an old one with another plan
pub replanned_among : (old new : List Watch) → AreReplanned old new → (v : Watch) → Among new v → (w : Watch) × Among old w × IsReplanned w v
replanned_among [] [] h v a = absurd a
replanned_among [] (u ∷ new) h v a = absurd h
replanned_among (w ∷ old) [] h v a = absurd a
replanned_among (w ∷ old) (u ∷ new) h v (inl e) = (w, inl refl, subst (IsReplanned w) e h.0)
replanned_among (w ∷ old) (u ∷ new) h v (inr a) = let r = replanned_among old new h.1 v a in (r.0, inr r.1, r.2)

-- ---- an edit

module _ (touch : Touch) where
  one_touched : (w v : Watch) → w.foot ≡ footprint w.query.path All All → IsTouched touch w v → IsMarkedAfter touch (plain w) (plain v)
  one_touched w v foot is = record {
    same = ap plain is.same;
    gone = λ met. ap is_some (is.gone (subst (λ (f : Footprint). Meets f touch) (sym foot) met));
    stays = λ unmet. ap is_some (is.stays (λ met. unmet (subst (λ (f : Footprint). Meets f touch) foot met)));
  }

  pub plain_touched : (old new : List Watch) → ((w : Watch) → Among old w → w.foot ≡ footprint w.query.path All All) → AreTouched touch old new → AreMarkedAfter touch (all_plain old) (all_plain new)
  plain_touched [] [] feet h = tt
  plain_touched [] (v ∷ new) feet h = absurd h
  plain_touched (w ∷ old) [] feet h = absurd h
  plain_touched (w ∷ old) (v ∷ new) feet h = (one_touched w v (feet w (inl refl)) h.0, plain_touched old new (λ u a. feet u (inr a)) h.1)
