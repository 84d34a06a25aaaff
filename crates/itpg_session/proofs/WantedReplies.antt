-- A line that wants the first arrivals, the last departures or the counts of a query text has exactly one reply, and this is one of
-- five kinds.
use Rattle.std.proofs.Common.{◌≡◌, inl, inr, ◌||◌, ◌&&◌, ℕ, ◌<◌, ℤ, pos, ◌≤ℤ◌, List, Bool, true, false, length, Option, None, Some, refl, sym, ap, ◌∙◌, subst, arith}
use Rattle.std.specs.Prelude.{not, IsTrue, IsSomeAnd}
use Rattle.std.proofs.lemmas.Option.{slice_get_within}
use Rattle.itpg_base.specs.Graphs.{Graph, Begun}
use Rattle.itpg_base.specs.Points.{Point, Relation, IsAt}
use Rattle.itpg_base.specs.Spans.{Within}
use Rattle.itpg_base.specs.declared.rule_code.RuleCode.{RuleCode}
use Rattle.itpg_base.specs.declared.text_code.TextCode.{TextCode}
use Rattle.itpg_base.specs.declared.text_code.TextCode.TheVariants.{Names}
use Rattle.itpg_base.proofs.Objects.{there}
use Rattle.itpg_base.proofs.Searches.{at_most}
use Rattle.itpg_edit.proofs.FirstOf.{first_unique, first_or_unbroken}
use Rattle.edit_reader.specs.declared.line.Wanted.{Wanted}
use Rattle.edit_reader.specs.declared.line.Wanted.TheVariants.{First, Last, Count}
use Rattle.path_ast.specs.Terms.{PathTerm, QueryTerm}
use Rattle.path_ast.specs.Meaning.{Rel}
use Rattle.path_ast.proofs.Pairs.{starts_at, ends_at}
use Rattle.path_ast.proofs.Deciding.{decide_rel}
use Rattle.match_parser.proofs.InRange.{asks_for_one}
use Rattle.relation_rows.specs.declared.rows.Row.{Row}
use Rattle.relation_rows.specs.declared.times.OneRow.{OneRow}
use Rattle.relation_rows.specs.Rows.{NormalRows, IsFinite, between}
use Rattle.relation_rows.specs.Times.{TimesHold, IsOneTime}
use Rattle.relation_rows.specs.Answered.{pairs, times}
use Rattle.relation_rows.proofs.Alike.{in_relation, row_start}
use Rattle.relation_rows.proofs.Listed.{rows_unique}
use Rattle.label_scope.specs.declared.scope.Scope.TheVariants.{All}
use Rattle.label_scope.specs.Members.{worked}
use Rattle.path_eval.specs.Answering.{IsAnswer, AnswersQuery}
use Rattle.path_eval.proofs.Finite.{departures, arrivals, fit_or_wide, fit_apart}
use Rattle.arrivals.specs.declared.counts.CountRow.{CountRow}
use Rattle.arrivals.specs.Firsts.{Least, Latest}
use Rattle.arrivals.specs.Counting.{AreCounts}
use Rattle.arrivals.proofs.Existing.{least_exists, latest_exists}
use Rattle.arrivals.proofs.CountLaws.{counts_unique}
use Rattle.arrivals.proofs.CountExists.{counts_exist}
use Rattle.row_printer.specs.Texts.{AreDeclared}
use Rattle.itpg_session.specs.Rules.{QueryBreaks, ask_rules}
use Rattle.itpg_session.specs.Replies.{Reply, Bad, Refused, Wide, Rows, Counted}
use Rattle.itpg_session.specs.Wanting.{Outcome, Chosen, Counts, outcome_number, has_ends, IsOutcome, FindsWanted, reply_with, IsReplyWantedOf, IsReplyWanted}
use Rattle.itpg_session.proofs.Decided.{first_or_none, decide_ask}
use Rattle.itpg_session.proofs.Replying.{TextLaws, one_answer}

-- ---- a path joins finitely many points

first_of : Option Begun → ℤ
first_of None = pos 0
first_of (Some b) = b.horizon.from

last_of : Option Begun → ℤ
last_of None = pos 0
last_of (Some b) = b.horizon.to

not_before : (b : Option Begun) (t : ℤ) → IsSomeAnd b (λ b. Within t b.horizon) → first_of b ≤ℤ t
unfolding first_of
not_before None t h = absurd h
not_before (Some b) t h = h.begun

not_after : (b : Option Begun) (t : ℤ) → IsSomeAnd b (λ b. Within t b.horizon) → t ≤ℤ last_of b
unfolding last_of
not_after None t h = absurd h
not_after (Some b) t h = h.going

module _ (g : Graph) (p : PathTerm) where
  few : (x : Point) → IsAt g x → x.object < length g.objects
  few x at = let s = there g.objects x.object _ at.stands in slice_get_within g.objects x.object s.0 s.1

  finite : IsFinite (length g.objects) (first_of g.begun) (last_of g.begun) (Rel p g)
  finite = record {
    source = λ x y h. few x (starts_at p g x y h);
    target = λ x y h. few y (ends_at p g x y h);
    departs = λ x y h. let near = (starts_at p g x y h).within in record { above = not_before g.begun x.moment near; below = not_after g.begun x.moment near };
    arrives = λ x y h. let near = (ends_at p g x y h).within in record { above = not_before g.begun y.moment near; below = not_after g.begun y.moment near };
  }

  -- its first arrivals and its last departures have normal rows
  pub some_first : (rows : List Row) × NormalRows (Least (Rel p g)) rows
  some_first = least_exists (Rel p g) (decide_rel p g) (length g.objects) (first_of g.begun) (last_of g.begun) finite

  pub some_last : (rows : List Row) × NormalRows (Latest (Rel p g)) rows
  some_last = latest_exists (Rel p g) (decide_rel p g) (length g.objects) (first_of g.begun) (last_of g.begun) finite

  -- rows of what it joins are of declared objects
  declared_rows : (R : Relation) → ((x y : Point) → R x y → Rel p g x y) → (rows : List Row) → NormalRows R rows → AreDeclared (length g.objects) (pairs rows)
  declared_rows R leads rows n = λ r among.
      let row = n.each r among in
      let pair = leads _ _ (in_relation R r (record { object = r.source.0; moment = _ }) (record { object = r.target.0; moment = _ }) row
      (record { source = refl; target = refl; pair = row_start (between R r.source.0 r.target.0) r.band row })) in
      (few _ (starts_at p g _ _ pair), few _ (ends_at p g _ _ pair))

  -- rows of one time are there where one end is named
  some_times : (first last : Bool) → IsTrue (first || last) → not (first && last) ≡ true → (rows : List OneRow) × IsAnswer first last (Rel p g) (times rows)
  some_times true true ends one = absurd (let never : ⊥ = cc in never)
  some_times true false ends one = departures g p
  some_times false true ends one = arrivals g p
  some_times false false ends one = absurd (let never : ⊥ = cc in never)

pub one_time : (first last : Bool) (R : Relation) (rows : List OneRow) → IsAnswer first last R (times rows) → IsOneTime rows
one_time true true R rows n = absurd n
one_time true false R rows n = record { spans = n.spans; order = n.order }
one_time false true R rows n = record { spans = n.spans; order = n.order }
one_time false false R rows n = absurd n

-- ---- what comes of a query

module _ (g : Graph) (q : QueryTerm) where
  one_counts : (a b : List CountRow) (rows others : List OneRow) → AnswersQuery g q (times rows) → AnswersQuery g q (times others) → AreCounts (TimesHold rows) a → AreCounts (TimesHold others) b → a ≡ b
  one_counts a b rows others n m x y =
      let alike : times rows ≡ times others = one_answer q.first q.last (Rel q.path g) (times rows) (times others) n m in
      let same : rows ≡ others = cc in
      counts_unique (TimesHold others) a b (subst (λ (r : List OneRow). AreCounts (TimesHold r) a) same x) y

  one_outcome : (wanted : Wanted) (x y : Outcome) → IsOutcome g wanted q x → IsOutcome g wanted q y → x ≡ y
  one_outcome First (Chosen a) (Chosen b) h k = ap Chosen (rows_unique (Least (Rel q.path g)) a b h k)
  one_outcome First (Chosen a) (Counts b) h k = absurd k
  one_outcome First (Counts a) y h k = absurd h
  one_outcome Last (Chosen a) (Chosen b) h k = ap Chosen (rows_unique (Latest (Rel q.path g)) a b h k)
  one_outcome Last (Chosen a) (Counts b) h k = absurd k
  one_outcome Last (Counts a) y h k = absurd h
  one_outcome Count (Counts a) (Counts b) h k = ap Counts (one_counts a b h.0 k.0 h.1 k.1 h.2 k.2)
  one_outcome Count (Counts a) (Chosen b) h k = absurd k
  one_outcome Count (Chosen a) y h k = absurd h

  some_outcome : (wanted : Wanted) → IsTrue (q.first || q.last) → has_ends wanted q ≡ true → (all : Outcome) × IsOutcome g wanted q all
  some_outcome First ends own = let r = some_first g q.path in (Chosen r.0, r.1)
  some_outcome Last ends own = let r = some_last g q.path in (Chosen r.0, r.1)
  some_outcome Count ends own =
      let r = some_times g q.path q.first q.last ends own in
      let c = counts_exist r.0 (one_time q.first q.last (Rel q.path g) r.0 r.1) in
      (Counts c.0, (r.0, r.1, c.1))

-- ---- what is found

module _ (g : Graph) (limit : ℕ) (wanted : Wanted) (q : QueryTerm) where
  one_found : (x y : Option Outcome) → FindsWanted g limit wanted q x → FindsWanted g limit wanted q y → x ≡ y
  one_found None None a b = refl
  one_found None (Some y) a b = absurd (wide_or_not y a b)
    where
      wide_or_not : (y : Outcome) → FindsWanted g limit wanted q None → FindsWanted g limit wanted q (Some y) → ⊥
      wide_or_not y (inl wide) b = b.0 wide
      wide_or_not y (inr w) b =
          let same : w.0 ≡ y = one_outcome g q wanted w.0 y w.1 b.1 in
          let many = subst (λ (o : Outcome). limit < outcome_number o) same w.2 in
          let most = b.2 in
          omega (arith, many, most)
  one_found (Some x) None a b = absurd (by_found b)
    where
      by_found : FindsWanted g limit wanted q None → ⊥
      by_found (inl wide) = a.0 wide
      by_found (inr w) =
          let same : w.0 ≡ x = one_outcome g q wanted w.0 x w.1 a.1 in
          let many = subst (λ (o : Outcome). limit < outcome_number o) same w.2 in
          let most = a.2 in
          omega (arith, many, most)
  one_found (Some x) (Some y) a b = ap Some (one_outcome g q wanted x y a.1 b.1)

  some_found : IsTrue (q.first || q.last) → has_ends wanted q ≡ true → (found : Option Outcome) × FindsWanted g limit wanted q found
  some_found ends own = elim (fit_or_wide g limit (worked q.path All All)) [
    | inl fits ↦ (
        let o = some_outcome g q wanted ends own in
        elim (at_most (outcome_number o.0) limit) [
          | inl most ↦ (Some o.0, (fit_apart g limit (worked q.path All All) fits, o.1, most))
          | inr many ↦ (None, inr (o.0, o.1, omega (arith, many)))
        ]
        )
    | inr wide ↦ (None, inl wide)
  ]

  -- ---- the reply to a query

  one_reply_of : (x y : Reply) → IsReplyWantedOf g limit wanted q x → IsReplyWantedOf g limit wanted q y → x ≡ y
  one_reply_of x y (inl (other, e)) (inl (same, k)) = e ∙ sym k
  one_reply_of x y (inl (other, e)) (inr (own, b)) = absurd (let never : ⊥ = cc in never)
  one_reply_of x y (inr (own, a)) (inl (other, k)) = absurd (let never : ⊥ = cc in never)
  one_reply_of x y (inr (own, inl a)) (inr (same, inl b)) = a.is ∙ ap Refused (first_unique (QueryBreaks g q) ask_rules a.rule b.rule a.first b.first) ∙ sym b.is
  one_reply_of x y (inr (own, inl a)) (inr (same, inr b)) = absurd (first_or_unbroken (QueryBreaks g q) ask_rules a.rule a.first b.unbroken)
  one_reply_of x y (inr (own, inr a)) (inr (same, inl b)) = absurd (first_or_unbroken (QueryBreaks g q) ask_rules b.rule b.first a.unbroken)
  one_reply_of x y (inr (own, inr a)) (inr (same, inr b)) = a.is ∙ ap reply_with (one_found a.found b.found a.finds b.finds) ∙ sym b.is

  some_reply_of : IsTrue (q.first || q.last) → (reply : Reply) × IsReplyWantedOf g limit wanted q reply
  some_reply_of ends = by_ends (has_ends wanted q) refl
    where
      by_ends : (t : Bool) → has_ends wanted q ≡ t → (reply : Reply) × IsReplyWantedOf g limit wanted q reply
      by_ends false e = (Bad Names, inl (e, refl))
      by_ends true e = elim (first_or_none (QueryBreaks g q) (decide_ask g q) ask_rules) [
        | inl f ↦ (Refused f.0, inr (e, inl (record { rule = f.0; first = f.1; is = refl })))
        | inr unbroken ↦ let f = some_found ends e in (reply_with f.0, inr (e, inr (record { unbroken = unbroken; found = f.0; finds = f.1; is = refl })))
      ]

-- ---- the reply to a text

module _ (laws : TextLaws) (g : Graph) (limit : ℕ) (wanted : Wanted) (text : List ℕ) where
  pub one_wanted : (x y : Reply) → IsReplyWanted g limit wanted text x → IsReplyWanted g limit wanted text y → x ≡ y
  one_wanted x y (inl (c, f, e)) (inl (d, h, k)) = e ∙ ap Bad (laws.one_fault text c d f h) ∙ sym k
  one_wanted x y (inl (c, f, e)) (inr (q, s, b)) = absurd (laws.apart text q c s f)
  one_wanted x y (inr (p, r, a)) (inl (d, h, k)) = absurd (laws.apart text p d r h)
  one_wanted x y (inr (p, r, a)) (inr (q, s, b)) = one_reply_of g limit wanted q x y (subst (λ (v : QueryTerm). IsReplyWantedOf g limit wanted v x) (laws.one_query text p q r s) a) b

  pub some_wanted : (reply : Reply) × IsReplyWanted g limit wanted text reply
  some_wanted = elim (laws.some_query text) [
    | inl s ↦ let r = some_reply_of g limit wanted s.0 (asks_for_one text s.0 s.1) in (r.0, inr (s.0, s.1, r.1))
    | inr f ↦ (Bad f.0, inl (f.0, f.1, refl))
  ]

-- what holds of a fault, of a refusal, of what is too wide, of counts and of rows of declared objects holds of such a reply
module _ (g : Graph) (limit : ℕ) (P : Reply → Type 0) (bad : (code : TextCode) → P (Bad code)) (refused : (rule : RuleCode) → P (Refused rule)) (wide : P Wide)
    (counted : (counts : List CountRow) → P (Counted counts)) (chosen : (rows : List Row) → AreDeclared (length g.objects) (pairs rows) → P (Rows (pairs rows))) where
  of_outcome : (wanted : Wanted) (q : QueryTerm) (all : Outcome) → IsOutcome g wanted q all → P (reply_with (Some all))
  of_outcome First q (Chosen rows) n = chosen rows (declared_rows g q.path (Least (Rel q.path g)) (λ x y h. h.0) rows n)
  of_outcome Last q (Chosen rows) n = chosen rows (declared_rows g q.path (Latest (Rel q.path g)) (λ x y h. h.0) rows n)
  of_outcome Count q (Chosen rows) n = absurd n
  of_outcome wanted q (Counts counts) n = counted counts

  of_found : (wanted : Wanted) (q : QueryTerm) (found : Option Outcome) → FindsWanted g limit wanted q found → P (reply_with found)
  of_found wanted q None a = wide
  of_found wanted q (Some all) a = of_outcome wanted q all a.1

  pub each_wanted : (wanted : Wanted) (text : List ℕ) (reply : Reply) → IsReplyWanted g limit wanted text reply → P reply
  each_wanted wanted text reply (inl (code, fault, e)) = subst P (sym e) (bad code)
  each_wanted wanted text reply (inr (q, reads, inl (other, e))) = subst P (sym e) (bad Names)
  each_wanted wanted text reply (inr (q, reads, inr (own, inl r))) = subst P (sym r.is) (refused r.rule)
  each_wanted wanted text reply (inr (q, reads, inr (own, inr t))) = subst P (sym t.is) (of_found wanted q t.found t.finds)
