-- Lists of watches: the search for a name, one more, one less, and one that is changed.
use Rattle.std.proofs.Common.{◌≡◌, ◌⊎◌, inl, inr, ⊎_elim, ℕ, zero, suc, ◌<◌, ◌≤◌, Bool, true, false, List, [], ◌∷◌, ◌++◌, map, length, set, take, drop, Some, refl, sym, ◌∙◌, ap, subst, arith, true≢false}
use Rattle.std.proofs.lemmas.List.{length-append}
use Rattle.std.specs.Prelude.{nat_eq, slice_get, IsSomeAnd}
use Rattle.std.specs.Cmp.Lexicographic.{pointwise}
use Rattle.itpg_base.specs.Words.{Word}
use Rattle.itpg_base.specs.Graphs.{changed_at}
use Rattle.itpg_base.proofs.Objects.{word_same, word_refl, length-changed_at}
use Rattle.itpg_base.specs.Lists.{Among, Ordered}
use Rattle.itpg_base.proofs.Lists.{among_append}
use Rattle.standing_queries.proofs.Named.{get_among, more_ordered}
use Rattle.standing_queries.specs.Watches.{Watch, IsWatched, NamesDiffer, without}
use Rattle.standing_queries.specs.Stores.{IsSound, AreSound}

-- what is in a mapped list is of something in the list
among_map : {X Y : Type 0} (f : X → Y) (xs : List X) (y : Y) → Among (map f xs) y → (x : X) × Among xs x × (f x ≡ y)
among_map f [] y a = absurd a
among_map f (x ∷ xs) y (inl e) = (x, inl refl, e)
among_map f (x ∷ xs) y (inr a) = let w = among_map f xs y a in (w.0, inr w.1, w.2)

pub map_among : {X Y : Type 0} (f : X → Y) (xs : List X) (x : X) → Among xs x → Among (map f xs) (f x)
map_among f [] x a = absurd a
map_among f (y ∷ ys) x (inl e) = inl (ap f e)
map_among f (y ∷ ys) x (inr a) = inr (map_among f ys x a)

-- what is said of the watch at a place
pub said_at : (ws : List Watch) (i : ℕ) (w : Watch) (P : Watch → Type 0) → slice_get ws i ≡ Some w → IsSomeAnd (slice_get ws i) P → P w
said_at ws i w P e h = subst (λ o. IsSomeAnd o P) e h

pub sound_none : AreSound []
sound_none = record { few = omega arith; differ = tt; each = λ w a. absurd a }

pub sound_more : (ws : List Watch) (w : Watch) → AreSound ws → IsSound w → (IsWatched ws w.name → ⊥) → length ws < 32 → AreSound (ws ++ w ∷ [])
sound_more ws w s k none few = record {
  few = omega (arith, length-append ws (w ∷ []));
  differ = more_ordered (λ (v : Watch). v.name) ws w s.differ (λ v a e. none (v, a, e));
  each = λ x a. ⊎_elim (λ b. s.each x b) (λ b. ⊎_elim (λ (e : w ≡ x). subst IsSound e k) (λ no. absurd no) b) (among_append ws (w ∷ []) x a);
}

-- the two names are the same or differ
pub same_names : (a b : Word) → ((pointwise nat_eq a b ≡ true) × (a ≡ b)) ⊎ ((pointwise nat_eq a b ≡ false) × (a ≡ b → ⊥))
same_names a b = by_test (pointwise nat_eq a b) refl
  where
    by_test : (t : Bool) → pointwise nat_eq a b ≡ t → ((pointwise nat_eq a b ≡ true) × (a ≡ b)) ⊎ ((pointwise nat_eq a b ≡ false) × (a ≡ b → ⊥))
    by_test true e = inl (e, word_same a b e)
    by_test false e = inr (e, λ k. true≢false (sym (word_refl a) ∙ ap (pointwise nat_eq a) k ∙ e))

without_here : (name : Word) (w : Watch) (ws : List Watch) → w.name ≡ name → without name (w ∷ ws) ≡ without name ws
without_here name w ws e = elim (same_names w.name name) [
  | inl h ↦ rw h.0 refl
  | inr h ↦ absurd (h.1 e)
]

without_other : (name : Word) (w : Watch) (ws : List Watch) → (w.name ≡ name → ⊥) → without name (w ∷ ws) ≡ w ∷ without name ws
without_other name w ws n = elim (same_names w.name name) [
  | inl h ↦ absurd (n h.1)
  | inr h ↦ rw h.0 refl
]

-- where no watch has the name, none is taken out
without_none : (name : Word) (ws : List Watch) → (IsWatched ws name → ⊥) → without name ws ≡ ws
without_none name [] none = refl
without_none name (w ∷ ws) none = without_other name w ws (λ e. none (w, inl refl, e)) ∙ ap (λ (v : List Watch). w ∷ v) (without_none name ws (λ h. none (h.0, inr h.1, h.2)))

-- what is left was there
pub without_among : (name : Word) (ws : List Watch) (x : Watch) → Among (without name ws) x → Among ws x
without_among name [] x a = a
without_among name (w ∷ ws) x a = elim (same_names w.name name) [
  | inl h ↦ inr (without_among name ws x (subst (λ (v : List Watch). Among v x) (without_here name w ws h.1) a))
  | inr h ↦ ⊎_elim (λ e. inl e) (λ b. inr (without_among name ws x b)) (subst (λ (v : List Watch). Among v x) (without_other name w ws h.1) a)
]

pub without_ordered : (name : Word) (ws : List Watch) → Ordered NamesDiffer ws → Ordered NamesDiffer (without name ws)
without_ordered name [] o = tt
without_ordered name (w ∷ ws) o = elim (same_names w.name name) [
  | inl h ↦ subst (λ (v : List Watch). Ordered NamesDiffer v) (sym (without_here name w ws h.1)) (without_ordered name ws o.1)
  | inr h ↦ subst (λ (v : List Watch). Ordered NamesDiffer v) (sym (without_other name w ws h.1)) ((λ y a. o.0 y (without_among name ws y a)), without_ordered name ws o.1)
]

without_few : (name : Word) (ws : List Watch) → length (without name ws) ≤ length ws
without_few name [] = omega arith
without_few name (w ∷ ws) = elim (same_names w.name name) [
  | inl h ↦ (let l = without_few name ws in let e = ap length (without_here name w ws h.1) in omega arith)
  | inr h ↦ (let l = without_few name ws in let e = ap length (without_other name w ws h.1) in omega arith)
]

pub sound_without : (name : Word) (ws : List Watch) → AreSound ws → AreSound (without name ws)
sound_without name ws s = record {
  few = (let l = without_few name ws in let few = s.few in omega arith);
  differ = without_ordered name ws s.differ;
  each = λ w a. s.each w (without_among name ws w a);
}

module _ {X : Type 0} (f : X → Watch) where
  -- the search for a name found it, or didn't
  pub named_at : (xs : List X) (i : ℕ) (x : X) → slice_get xs i ≡ Some x → slice_get (map f xs) i ≡ Some (f x)
  named_at [] i x e = let no : ⊥ = cc in absurd no
  named_at (y ∷ ys) zero x e = ap Some (ap f (cc))
  named_at (y ∷ ys) (suc i) x e = named_at ys i x e

  pub watched_in : (xs : List X) (name : Word) → IsWatched (map f xs) name → (x : X) × Among xs x × ((f x).name ≡ name)
  watched_in xs name h = let w = among_map f xs h.0 h.1 in (w.0, w.1, ap (λ (v : Watch). v.name) w.2 ∙ h.2)

  -- the one that is taken out at a place is the one of its name
  pub taken_out : (xs : List X) (i : ℕ) (x : X) (name : Word) → slice_get xs i ≡ Some x → (f x).name ≡ name → Ordered NamesDiffer (map f xs)
      → map f (take i xs ++ drop (suc i) xs) ≡ without name (map f xs)
  taken_out [] i x name e n o = let no : ⊥ = cc in absurd no
  taken_out (y ∷ ys) zero x name e n o =
      let same : y ≡ x = cc in
      let here : (f y).name ≡ name = ap (λ (v : X). (f v).name) same ∙ n in
      sym (without_here name (f y) (map f ys) here ∙ without_none name (map f ys) (λ h. o.0 h.0 h.1 (here ∙ sym h.2)))
  taken_out (y ∷ ys) (suc i) x name e n o =
      let later = map_among f ys x (get_among ys i x e) in
      ap (λ (v : List Watch). f y ∷ v) (taken_out ys i x name e n o.1)
      ∙ sym (without_other name (f y) (map f ys) (λ k. o.0 (f x) later (k ∙ sym n)))

  -- one is changed at a place
  pub changed : (xs : List X) (i : ℕ) (x z : X) (g : Watch → Watch) → slice_get xs i ≡ Some x → f z ≡ g (f x) → map f (set xs i z) ≡ changed_at (map f xs) i g
  changed [] i x z g e n = let no : ⊥ = cc in absurd no
  changed (y ∷ ys) zero x z g e n = let same : y ≡ x = cc in ap (λ (v : Watch). v ∷ map f ys) (n ∙ ap (λ (v : X). g (f v)) (sym same))
  changed (y ∷ ys) (suc i) x z g e n = ap (λ (v : List Watch). f y ∷ v) (changed ys i x z g e n)

  pub set_mapped : (xs : List X) (i : ℕ) (z : X) → map f (set xs i z) ≡ set (map f xs) i (f z)
  set_mapped [] i z = refl
  set_mapped (x ∷ xs) zero z = refl
  set_mapped (x ∷ xs) (suc i) z = ap (λ (v : List Watch). f x ∷ v) (set_mapped xs i z)

  pub some_mapped : (xs : List X) (i : ℕ) (P : Watch → Type 0) → IsSomeAnd (slice_get (map f xs) i) P → (x : X) × (slice_get xs i ≡ Some x) × P (f x)
  some_mapped [] i P h = absurd h
  some_mapped (x ∷ xs) zero P h = (x, refl, h)
  some_mapped (x ∷ xs) (suc i) P h = some_mapped xs i P h

-- where one watch is changed and keeps its name
module _ (g : Watch → Watch) (named : (w : Watch) → (g w).name ≡ w.name) where
  changed_named : (i : ℕ) (ws : List Watch) (x : Watch) → Among (changed_at ws i g) x → (w : Watch) × Among ws w × (w.name ≡ x.name)
  changed_named i [] x a = absurd a
  changed_named zero (w ∷ ws) x (inl e) = (w, inl refl, sym (named w) ∙ ap (λ (v : Watch). v.name) e)
  changed_named zero (w ∷ ws) x (inr a) = (x, inr a, refl)
  changed_named (suc i) (w ∷ ws) x (inl e) = (w, inl refl, ap (λ (v : Watch). v.name) e)
  changed_named (suc i) (w ∷ ws) x (inr a) = let h = changed_named i ws x a in (h.0, inr h.1, h.2)

  changed_ordered : (i : ℕ) (ws : List Watch) → Ordered NamesDiffer ws → Ordered NamesDiffer (changed_at ws i g)
  changed_ordered i [] o = tt
  changed_ordered zero (w ∷ ws) o = (λ y a e. o.0 y a (sym (named w) ∙ e), o.1)
  changed_ordered (suc i) (w ∷ ws) o = ((λ y a. let h = changed_named i ws y a in λ e. o.0 h.0 h.1 (e ∙ sym h.2)), changed_ordered i ws o.1)

  changed_each : (i : ℕ) (ws : List Watch) → ((w : Watch) → Among ws w → IsSound w) → ((w : Watch) → slice_get ws i ≡ Some w → IsSound (g w)) → (x : Watch) → Among (changed_at ws i g) x → IsSound x
  changed_each i [] each k x a = absurd a
  changed_each zero (w ∷ ws) each k x (inl e) = subst IsSound e (k w refl)
  changed_each zero (w ∷ ws) each k x (inr a) = each x (inr a)
  changed_each (suc i) (w ∷ ws) each k x (inl e) = each x (inl e)
  changed_each (suc i) (w ∷ ws) each k x (inr a) = changed_each i ws (λ v c. each v (inr c)) k x a

  pub sound_changed : (i : ℕ) (ws : List Watch) → AreSound ws → ((w : Watch) → slice_get ws i ≡ Some w → IsSound (g w)) → AreSound (changed_at ws i g)
  sound_changed i ws s k = record {
    few = (let e = length-changed_at ws i g in let few = s.few in omega arith);
    differ = changed_ordered i ws s.differ;
    each = changed_each i ws s.each k;
  }
