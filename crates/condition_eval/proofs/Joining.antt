-- A one-time row that is joined to those before it, and rows one after the other.
use Rattle.std.proofs.Common.{◌≡◌, ◌↔◌, ◌⊎◌, inl, inr, ⊎_elim, ℕ, ◌+◌, ◌<◌, ◌≤◌, ℤ, ◌≤ℤ◌, List, [], ◌∷◌, ◌++◌, length, slice_index_or, take, append_assoc, append-nil, refl, sym, ◌∙◌, ap, subst, arith, length-append}
use Rattle.std.proofs.lemmas.Int.{ints}
use Rattle.std.proofs.lemmas.List.{take_more, take_all}
use Rattle.itpg_base.specs.declared.object_number.ObjNo.{ObjNo}
use Rattle.itpg_base.specs.Spans.{Within, IsSpan}
use Rattle.itpg_base.specs.Lists.{Among}
use Rattle.itpg_base.proofs.Lists.{among_append, append_first, append_second, among_at, ordered_at}
use Rattle.relation_rows.specs.declared.times.OneRow.{OneRow}
use Rattle.relation_rows.specs.Times.{InTime, TimesHold, TimeBefore, TimeUpTo, IsOneTime, Joins}
use Rattle.relation_rows.proofs.Coalescing.{Coalesced, coalesced_joined, coalesced_pushed, coalesced_times, hold_more}
use Rattle.relation_rows.proofs.Partitions.{front_among}
use Rattle.relation_rows.proofs.Runs.{times_self, one_time_of}
use Rattle.condition_eval.specs.Walking.{AreJoined}

-- ---- one row more

pub joined_order : (read rows : List OneRow) → AreJoined read rows → IsOneTime rows
joined_order read rows j = one_time_of (TimesHold read) rows j.times

joined_self : (read : List OneRow) → IsOneTime read → AreJoined read read
joined_self read order = record { times = times_self read order; begun = λ r a. (r, a, refl, refl) }

one_alone : (row : OneRow) → IsSpan row.span → IsOneTime (row ∷ [])
one_alone row span = record {
  spans = λ r a. ⊎_elim (λ (e : row ≡ r). subst (λ (v : OneRow). IsSpan v.span) e span) (λ b. absurd b) a;
  order = (λ r a. absurd a, tt);
}

pub none_there : (xs : List OneRow) → length xs ≡ 0 → xs ≡ []
none_there [] e = refl
none_there (x ∷ xs) e = absurd (omega (arith, e))

-- the row is the first
pub joined_first : (old rest next : List OneRow) (row : OneRow) → IsSpan row.span → length old ≡ 0 → length rest ≡ 0 → next ≡ rest ++ row ∷ [] → AreJoined (old ++ row ∷ []) next
joined_first old rest next row span e f is =
    let a = none_there old e in
    let b : next ≡ row ∷ [] = is ∙ ap (λ (v : List OneRow). v ++ row ∷ []) (none_there rest f) in
    subst (λ (v : List OneRow). AreJoined (old ++ row ∷ []) v) (sym b) (subst (λ (v : List OneRow). AreJoined (v ++ row ∷ []) (row ∷ [])) (sym a) (joined_self (row ∷ []) (one_alone row span)))

module _ (init : List OneRow) (last row : OneRow) (order : IsOneTime (init ++ last ∷ [])) (span : IsSpan row.span) (up : (r : OneRow) → Among (init ++ last ∷ []) r → TimeUpTo r row) where
  abbrev read : List OneRow
  read = (init ++ last ∷ []) ++ row ∷ []

  all_spans : (r : OneRow) → Among read r → IsSpan r.span
  all_spans r a = ⊎_elim
      (λ b. order.spans r b)
      (λ b. ⊎_elim (λ (e : row ≡ r). subst (λ (v : OneRow). IsSpan v.span) e span) (λ c. absurd c) b)
      (among_append (init ++ last ∷ []) (row ∷ []) r a)

  last_there : Among (init ++ last ∷ []) last
  last_there = append_second init (last ∷ []) last (inl refl)

  before : Coalesced (init ++ last ∷ []) init last
  before = record {
    holds = λ o t. (λ h. h, λ h. h);
    spans = order.spans;
    order = order.order;
    begun = (last, last_there, refl, refl);
    few = omega (arith, length-append {A = OneRow} init (last ∷ []));
  }

  -- the last one and the row become one
  last_joined : (one : OneRow) → Joins last row → one.object ≡ last.object → one.span.from ≡ last.span.from → ((t : ℤ) → Within t one.span ↔ (Within t last.span ⊎ Within t row.span)) → IsSpan one.span
      → (next : List OneRow) → next ≡ init ++ one ∷ [] → AreJoined read next
  last_joined one joins e f moments one_span next is = record {
    times = coalesced_times read init one (coalesced_joined (init ++ last ∷ []) row all_spans up init last before one joins e f moments one_span) next is;
    begun = λ r a. ⊎_elim
        (λ b. (r, append_first (init ++ last ∷ []) (row ∷ []) r (append_first init (last ∷ []) r b), refl, refl))
        (λ b. ⊎_elim (λ (g : one ≡ r). (last, append_first (init ++ last ∷ []) (row ∷ []) last last_there, ap (λ (v : ObjNo). v.0) (sym e) ∙ ap (λ (v : OneRow). v.object.0) g, sym f ∙ ap (λ (v : OneRow). v.span.from) g)) (λ c. absurd c) b)
        (among_append init (one ∷ []) r (subst (λ (v : List OneRow). Among v r) is a));
  }

  -- the row stays apart
  row_apart : (Joins last row → ⊥) → (next : List OneRow) → next ≡ read → AreJoined read next
  row_apart apart next is = record {
    times = coalesced_times read (init ++ last ∷ []) row (coalesced_pushed (init ++ last ∷ []) row all_spans up init last before apart (init ++ last ∷ []) refl) next is;
    begun = λ r a. (r, subst (λ (v : List OneRow). Among v r) is a, refl, refl);
  }

module _ (old rest : List OneRow) (last row : OneRow) (is_old : old ≡ rest ++ last ∷ []) (order : IsOneTime old) (span : IsSpan row.span) (up : (r : OneRow) → Among old r → TimeUpTo r row) where
  old_order : IsOneTime (rest ++ last ∷ [])
  old_order = subst IsOneTime is_old order

  old_up : (r : OneRow) → Among (rest ++ last ∷ []) r → TimeUpTo r row
  old_up r a = up r (subst (λ (v : List OneRow). Among v r) (sym is_old) a)

  pub last_up : Joins last row → last.span.from ≤ℤ row.span.from
  last_up joins =
      let e = joins.0 in
      ⊎_elim (λ l. absurd (omega (arith, l, e))) (λ k. k.1) (old_up last (append_second rest (last ∷ []) last (inl refl)))

  pub joined_last : (one : OneRow) → Joins last row → one.object ≡ last.object → one.span.from ≡ last.span.from → ((t : ℤ) → Within t one.span ↔ (Within t last.span ⊎ Within t row.span)) → IsSpan one.span
      → (next : List OneRow) → next ≡ rest ++ one ∷ [] → AreJoined (old ++ row ∷ []) next
  joined_last one joins e f moments one_span next is =
      subst (λ (v : List OneRow). AreJoined (v ++ row ∷ []) next) (sym is_old) (last_joined rest last row old_order span old_up one joins e f moments one_span next is)

  pub joined_apart : (Joins last row → ⊥) → (mid next : List OneRow) → mid ≡ rest ++ last ∷ [] → next ≡ mid ++ row ∷ [] → AreJoined (old ++ row ∷ []) next
  joined_apart apart mid next e f =
      subst (λ (v : List OneRow). AreJoined (v ++ row ∷ []) next) (sym is_old) (row_apart rest last row old_order span old_up apart next (f ∙ ap (λ (v : List OneRow). v ++ row ∷ []) e))

-- a row that begins as another comes before what the other does
pub up_as : (r q s : OneRow) → q.object.0 ≡ r.object.0 → q.span.from ≡ r.span.from → TimeUpTo q s → TimeUpTo r s
up_as r q s e f (inl l) = inl (omega (arith, l, e))
up_as r q s e f (inr (g, l)) = inr (sym e ∙ g, subst (λ (v : ℤ). v ≤ℤ s.span.from) f l)

pub before_up : (r s : OneRow) → IsSpan r.span → TimeBefore r s → TimeUpTo r s
before_up r s span (inl l) = inl l
before_up r s span (inr (e, l)) = inr (e, omega (arith, ints))

-- what was joined is joined to one more
pub joined_more : (read rows next : List OneRow) (row : OneRow) → AreJoined read rows → AreJoined (rows ++ row ∷ []) next → AreJoined (read ++ row ∷ []) next
joined_more read rows next row j k =
    let own = j.times in
    let more = k.times in
    record {
      times = record {
        whole = λ o t h. more.whole o t (⊎_elim (λ a. (hold_more rows row o t).1 (inl (own.whole o t a))) (λ (a : InTime row o t). (hold_more rows row o t).1 (inr a)) ((hold_more read row o t).0 h));
        only = λ o t h. ⊎_elim (λ a. (hold_more read row o t).1 (inl (own.only o t a))) (λ (a : InTime row o t). (hold_more read row o t).1 (inr a)) ((hold_more rows row o t).0 (more.only o t h));
        spans = more.spans;
        order = more.order;
      };
      begun = λ r a.
          let q = k.begun r a in
          ⊎_elim
          (λ b. let p = j.begun q.0 b in (p.0, append_first read (row ∷ []) p.0 p.1, p.2 ∙ q.2, p.3 ∙ q.3))
          (λ b. (q.0, append_second read (row ∷ []) q.0 b, q.2, q.3))
          (among_append rows (row ∷ []) q.0 q.1);
    }

-- ---- all rows of a list

module _ (old more : List OneRow) (order : IsOneTime old) (also : IsOneTime more) (up : (r s : OneRow) → Among old r → Among more s → TimeUpTo r s) where
  pub none_joined : AreJoined (old ++ take 0 more) old
  none_joined = subst (λ (v : List OneRow). AreJoined v old) (sym (none more)) (joined_self old order)
    where
      none : (xs : List OneRow) → old ++ take 0 xs ≡ old
      none [] = append-nil old
      none (x ∷ xs) = append-nil old

  pub all_joined : (i : ℕ) (rows : List OneRow) → length more ≤ i → AreJoined (old ++ take i more) rows → AreJoined (old ++ more) rows
  all_joined i rows le = subst (λ (v : List OneRow). AreJoined (old ++ v) rows) (take_all i more le)

  module _ (i : ℕ) (x : OneRow) (lt : i < length more) (read : x ≡ slice_index_or more i x) (rows : List OneRow) (j : AreJoined (old ++ take i more) rows) where
    x_there : Among more x
    x_there = subst (Among more) (sym read) (among_at more i x lt)

    pub item_span : IsSpan x.span
    item_span = also.spans x x_there

    pub item_up : (r : OneRow) → Among rows r → TimeUpTo r x
    item_up r a =
        let q = j.begun r a in
        up_as r q.0 x q.2 q.3 (⊎_elim
        (λ b. up q.0 x b x_there)
        (λ b. before_up q.0 x (also.spans q.0 (front_among more i q.0 b)) (subst (λ (v : OneRow). TimeBefore q.0 v) (sym read) (ordered_at TimeBefore more i x also.order lt q.0 b)))
        (among_append old (take i more) q.0 q.1))

    pub item_joined : (next : List OneRow) → AreJoined (rows ++ x ∷ []) next → AreJoined (old ++ take (i + 1) more) next
    item_joined next k =
        let e : take (i + 1) more ≡ take i more ++ x ∷ [] = take_more more i x lt ∙ ap (λ (v : OneRow). take i more ++ v ∷ []) (sym read) in
        let f : old ++ take (i + 1) more ≡ (old ++ take i more) ++ x ∷ [] = ap (λ (v : List OneRow). old ++ v) e ∙ sym (append_assoc old (take i more) (x ∷ [])) in
        subst (λ (v : List OneRow). AreJoined v next) (sym f) (joined_more (old ++ take i more) rows next x j k)
