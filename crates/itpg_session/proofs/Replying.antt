-- On each graph a query text has exactly one reply, and each object of its rows was declared.
use Rattle.std.proofs.Common.{◌≡◌, ◌⊎◌, inl, inr, ◌||◌, ℕ, ◌<◌, List, Bool, true, false, length, Option, None, Some, refl, sym, ap, ◌∙◌, subst, arith}
use Rattle.std.specs.Prelude.{IsTrue}
use Rattle.std.proofs.lemmas.Int.{ints}
use Rattle.std.proofs.lemmas.Option.{slice_get_within}
use Rattle.itpg_base.specs.Graphs.{Graph}
use Rattle.itpg_base.specs.Points.{Point, Relation, IsAt}
use Rattle.itpg_base.specs.declared.text_code.TextCode.{TextCode}
use Rattle.itpg_base.proofs.Objects.{there}
use Rattle.itpg_base.specs.declared.rule_code.RuleCode.{RuleCode}
use Rattle.itpg_edit.specs.Rules.{FirstOf, NoneOf}
use Rattle.itpg_edit.proofs.FirstOf.{first_unique, first_or_unbroken}
use Rattle.path_ast.specs.Terms.{PathTerm, QueryTerm}
use Rattle.path_ast.specs.Meaning.{Rel}
use Rattle.path_ast.proofs.Pairs.{starts_at, ends_at}
use Rattle.match_parser.specs.Reading.{Reads, FaultOf}
use Rattle.match_parser.proofs.InRange.{asks_for_one}
use Rattle.relation_rows.specs.declared.rows.Row.{Row}
use Rattle.relation_rows.specs.Rows.{NormalRows, between}
use Rattle.relation_rows.specs.Answered.{Answered, pairs, times}
use Rattle.relation_rows.proofs.Alike.{rows_alike, in_relation, row_start}
use Rattle.relation_rows.proofs.Listed.{rows_unique}
use Rattle.relation_rows.proofs.TimeLaws.{times_unique}
use Rattle.label_scope.specs.declared.scope.Scope.TheVariants.{All}
use Rattle.label_scope.specs.Narrowing.{Cut}
use Rattle.label_scope.specs.Members.{worked}
use Rattle.label_scope.proofs.Within.{cut_all}
use Rattle.path_eval.specs.Answering.{DepartsAt, ArrivesAt, IsAnswer, IsAnswerFrom, AnswersQuery}
use Rattle.plan_cache.specs.RightRows.{AllFit}
use Rattle.path_eval.proofs.Answers.{answer_from}
use Rattle.path_eval.proofs.Finite.{cut_rows, departures, arrivals, fit_or_wide, fit_apart}
use Rattle.row_printer.specs.Texts.{AreDeclared}
use Rattle.itpg_session.specs.Questions.{HasAnswer}
use Rattle.itpg_session.specs.Rules.{QueryBreaks, ask_rules}
use Rattle.itpg_session.specs.Replies.{Reply, Silent, Bad, Refused, Wide, Rows, Counted, Shown, OfPin, PerWatch, IsFound, FindsFor, IsReply, IsReplyTo, NamesDeclared}
use Rattle.itpg_session.proofs.Decided.{first_or_none, decide_ask}

-- ---- what answers a query

pub one_answer : (first last : Bool) (R : Relation) (x y : Answered) → IsAnswer first last R x → IsAnswer first last R y → x ≡ y
one_answer true true R (pairs x) (pairs y) a b = ap pairs (rows_unique R x y a b)
one_answer true true R (pairs x) (times y) a b = absurd b
one_answer true true R (times x) y a b = absurd a
one_answer true false R (times x) (times y) a b = ap times (times_unique (DepartsAt R) x y a b)
one_answer true false R (times x) (pairs y) a b = absurd b
one_answer true false R (pairs x) y a b = absurd a
one_answer false true R (times x) (times y) a b = ap times (times_unique (ArrivesAt R) x y a b)
one_answer false true R (times x) (pairs y) a b = absurd b
one_answer false true R (pairs x) y a b = absurd a
one_answer false false R (pairs x) y a b = absurd a
one_answer false false R (times x) y a b = absurd a

some_answer : (first last : Bool) (g : Graph) (p : PathTerm) → IsTrue (first || last) → (answer : Answered) × IsAnswer first last (Rel p g) answer
some_answer true true g p ends = let r = cut_rows g p All All in (pairs r.0, rows_alike (Cut g p All All) (Rel p g) (λ x y h. h.leads) (cut_all p g) r.0 r.1)
some_answer true false g p ends = let r = departures g p in (times r.0, r.1)
some_answer false true g p ends = let r = arrivals g p in (times r.0, r.1)
some_answer false false g p ends = let no : ⊥ = cc in absurd no

-- what the rows between all objects give answers for the path
answer_of_rows : (g : Graph) (q : QueryTerm) (rows : List Row) (answer : Answered) → NormalRows (Cut g q.path All All) rows → IsAnswerFrom q.first q.last rows answer → AnswersQuery g q answer
answer_of_rows g q rows answer n = answer_from q.first q.last (Rel q.path g) rows answer (rows_alike (Cut g q.path All All) (Rel q.path g) (λ x y h. h.leads) (cut_all q.path g) rows n)

-- ---- declared objects

module _ (g : Graph) (p : PathTerm) where
  few : (x : Point) → IsAt g x → x.object < length g.objects
  few x at = let s = there g.objects x.object _ at.stands in slice_get_within g.objects x.object s.0 s.1

  pub declared : (first last : Bool) (answer : Answered) → IsAnswer first last (Rel p g) answer → AreDeclared (length g.objects) answer
  declared true true (pairs rows) n = λ r among.
      let row = n.each r among in
      let pair = in_relation (Rel p g) r (record { object = r.source.0; moment = _ }) (record { object = r.target.0; moment = _ }) row
      (record { source = refl; target = refl; pair = row_start (between (Rel p g) r.source.0 r.target.0) r.band row }) in
      (few _ (starts_at p g _ _ pair), few _ (ends_at p g _ _ pair))
  declared true true (times rows) n = absurd n
  declared true false (pairs rows) n = absurd n
  declared true false (times rows) n = λ r among.
      let span = n.spans r among in
      let pair = n.only r.object.0 r.span.from (r, among, record { object = refl; moment = record { begun = omega (arith, ints); going = span } }) in
      few _ (starts_at p g _ _ pair.1)
  declared false true (pairs rows) n = absurd n
  declared false true (times rows) n = λ r among.
      let span = n.spans r among in
      let pair = n.only r.object.0 r.span.from (r, among, record { object = refl; moment = record { begun = omega (arith, ints); going = span } }) in
      few _ (ends_at p g _ _ pair.1)
  declared false false (pairs rows) n = absurd n
  declared false false (times rows) n = absurd n

-- ---- what is found for a query

module _ (g : Graph) (limit : ℕ) (q : QueryTerm) where
  pub one_answered : (x y : Answered) → HasAnswer g limit q x → HasAnswer g limit q y → x ≡ y
  one_answered x y a b = one_answer q.first q.last (Rel q.path g) x y a.1 b.1

  pub one_found : (x y : Reply) → IsFound g limit q x → IsFound g limit q y → x ≡ y
  one_found Silent y a b = absurd a
  one_found (Bad c) y a b = absurd a
  one_found (Refused r) y a b = absurd a
  one_found (Counted c) y a b = absurd a
  one_found (Shown i f) y a b = absurd a
  one_found (OfPin i x) y a b = absurd a
  one_found (PerWatch f) y a b = absurd a
  one_found Wide Silent a b = absurd b
  one_found Wide (Bad c) a b = absurd b
  one_found Wide (Refused r) a b = absurd b
  one_found Wide (Counted c) a b = absurd b
  one_found Wide (Shown i f) a b = absurd b
  one_found Wide (OfPin i x) a b = absurd b
  one_found Wide (PerWatch f) a b = absurd b
  one_found Wide Wide a b = refl
  one_found Wide (Rows y) a b = absurd (b.0 a)
  one_found (Rows x) Silent a b = absurd b
  one_found (Rows x) (Bad c) a b = absurd b
  one_found (Rows x) (Refused r) a b = absurd b
  one_found (Rows x) (Counted c) a b = absurd b
  one_found (Rows x) (Shown i f) a b = absurd b
  one_found (Rows x) (OfPin i y) a b = absurd b
  one_found (Rows x) (PerWatch f) a b = absurd b
  one_found (Rows x) Wide a b = absurd (a.0 b)
  one_found (Rows x) (Rows y) a b = ap Rows (one_answered x y a b)

  pub one_finding : (x y : Option Answered) → FindsFor g limit q x → FindsFor g limit q y → x ≡ y
  one_finding None None a b = refl
  one_finding None (Some y) a b = absurd (b.0 a)
  one_finding (Some x) None a b = absurd (a.0 b)
  one_finding (Some x) (Some y) a b = ap Some (one_answered x y a b)

  pub some_finding : IsTrue (q.first || q.last) → (found : Option Answered) × FindsFor g limit q found
  some_finding ends = elim (fit_or_wide g limit (worked q.path All All)) [
    | inl fits ↦ let a = some_answer q.first q.last g q.path ends in (Some a.0, (fit_apart g limit (worked q.path All All) fits, a.1))
    | inr wide ↦ (None, wide)
  ]

  some_found : IsTrue (q.first || q.last) → (found : Reply) × IsFound g limit q found
  some_found ends = let f = some_finding ends in by_finding f.0 f.1
    where
      by_finding : (found : Option Answered) → FindsFor g limit q found → (reply : Reply) × IsFound g limit q reply
      by_finding None is = (Wide, is)
      by_finding (Some answer) is = (Rows answer, is)

  pub found_declared : (found : Reply) → IsFound g limit q found → NamesDeclared g found
  found_declared Silent a = tt
  found_declared (Bad c) a = tt
  found_declared (Refused r) a = tt
  found_declared (Counted c) a = tt
  found_declared (Shown i f) a = tt
  found_declared (OfPin i x) a = tt
  found_declared (PerWatch f) a = tt
  found_declared Wide a = tt
  found_declared (Rows x) a = declared g q.path q.first q.last x a.1

-- the rows of the path's relation, where all its members fit, give the answer
pub rows_found : (g : Graph) (limit : ℕ) (q : QueryTerm) (rows : List Row) (answer : Answered) → AllFit g limit (worked q.path All All)
    → NormalRows (Cut g q.path All All) rows → IsAnswerFrom q.first q.last rows answer → HasAnswer g limit q answer
rows_found g limit q rows answer fits n from = (fit_apart g limit (worked q.path All All) fits, answer_of_rows g q rows answer n from)

-- ---- the reply to a query

module _ (g : Graph) (limit : ℕ) (q : QueryTerm) where
  -- the first rule that asking it breaks, or what is found for it
  refused_or_found : (x : Reply) → IsReplyTo g limit q x → ((rule : RuleCode) × FirstOf (QueryBreaks g q) ask_rules rule × (x ≡ Refused rule)) ⊎ (NoneOf (QueryBreaks g q) ask_rules × IsFound g limit q x)
  refused_or_found (Refused r) a = inl (r, a, refl)
  refused_or_found Silent a = inr a
  refused_or_found (Bad c) a = inr a
  refused_or_found Wide a = inr a
  refused_or_found (Rows x) a = inr a
  refused_or_found (Counted c) a = inr a
  refused_or_found (Shown i f) a = inr a
  refused_or_found (OfPin i x) a = inr a
  refused_or_found (PerWatch f) a = inr a

  pub one_reply_to : (x y : Reply) → IsReplyTo g limit q x → IsReplyTo g limit q y → x ≡ y
  one_reply_to x y a b = by_cases (refused_or_found x a) (refused_or_found y b)
    where
      Cases : Reply → Type 0
      Cases z = ((rule : RuleCode) × FirstOf (QueryBreaks g q) ask_rules rule × (z ≡ Refused rule)) ⊎ (NoneOf (QueryBreaks g q) ask_rules × IsFound g limit q z)

      by_cases : Cases x → Cases y → x ≡ y
      by_cases (inl (r, f, e)) (inl (s, h, k)) = e ∙ ap Refused (first_unique (QueryBreaks g q) ask_rules r s f h) ∙ sym k
      by_cases (inl (r, f, e)) (inr (none, h)) = absurd (first_or_unbroken (QueryBreaks g q) ask_rules r f none)
      by_cases (inr (none, h)) (inl (s, f, k)) = absurd (first_or_unbroken (QueryBreaks g q) ask_rules s f none)
      by_cases (inr (none, h)) (inr (same, k)) = one_found g limit q x y h k

  -- what is found is the reply, where no rule is broken
  pub is_reply : NoneOf (QueryBreaks g q) ask_rules → (found : Reply) → IsFound g limit q found → IsReplyTo g limit q found
  is_reply unbroken Silent is = absurd is
  is_reply unbroken (Bad c) is = absurd is
  is_reply unbroken (Refused r) is = absurd is
  is_reply unbroken (Counted c) is = absurd is
  is_reply unbroken (Shown i f) is = absurd is
  is_reply unbroken (OfPin i x) is = absurd is
  is_reply unbroken (PerWatch f) is = absurd is
  is_reply unbroken Wide is = (unbroken, is)
  is_reply unbroken (Rows x) is = (unbroken, is)

  pub some_reply_to : IsTrue (q.first || q.last) → (reply : Reply) × IsReplyTo g limit q reply
  some_reply_to ends = elim (first_or_none (QueryBreaks g q) (decide_ask g q) ask_rules) [
    | inl f ↦ (Refused f.0, f.1)
    | inr unbroken ↦ let f = some_found g limit q ends in (f.0, is_reply unbroken f.0 f.1)
  ]

-- ---- the reply to a query text

module _ (g : Graph) (limit : ℕ) (text : List ℕ) where
  pub of_read : (q : QueryTerm) → Reads text q → (reply : Reply) → IsReplyTo g limit q reply → IsReply g limit text reply
  of_read q reads (Bad c) a = absurd a.1
  of_read q reads (Refused r) a = (q, reads, a)
  of_read q reads Silent a = (q, reads, a)
  of_read q reads Wide a = (q, reads, a)
  of_read q reads (Rows x) a = (q, reads, a)
  of_read q reads (Counted c) a = (q, reads, a)
  of_read q reads (Shown i f) a = (q, reads, a)
  of_read q reads (OfPin i x) a = (q, reads, a)
  of_read q reads (PerWatch f) a = (q, reads, a)

  read_or_bad : (reply : Reply) → IsReply g limit text reply → ((q : QueryTerm) × Reads text q × IsReplyTo g limit q reply) ⊎ ((c : TextCode) × FaultOf text c × (reply ≡ Bad c))
  read_or_bad (Bad c) a = inr (c, a, refl)
  read_or_bad (Refused r) a = inl a
  read_or_bad Silent a = inl a
  read_or_bad Wide a = inl a
  read_or_bad (Rows x) a = inl a
  read_or_bad (Counted c) a = inl a
  read_or_bad (Shown i f) a = inl a
  read_or_bad (OfPin i x) a = inl a
  read_or_bad (PerWatch f) a = inl a

  pub declared_asked : (reply : Reply) → IsReply g limit text reply → NamesDeclared g reply
  declared_asked (Bad c) a = tt
  declared_asked (Refused r) a = tt
  declared_asked Silent a = tt
  declared_asked Wide a = tt
  declared_asked (Counted c) a = tt
  declared_asked (Shown i f) a = tt
  declared_asked (OfPin i x) a = tt
  declared_asked (PerWatch f) a = tt
  declared_asked (Rows x) (q, reads, a) = declared g q.path q.first q.last x a.1.1

-- the laws of query texts
pub record TextLaws : Type 0 where
  pub one_query : (text : List ℕ) (p q : QueryTerm) → Reads text p → Reads text q → p ≡ q
  pub one_fault : (text : List ℕ) (c d : TextCode) → FaultOf text c → FaultOf text d → c ≡ d
  pub apart : (text : List ℕ) (q : QueryTerm) (c : TextCode) → Reads text q → FaultOf text c → ⊥
  pub some_query : (text : List ℕ) → ((q : QueryTerm) × Reads text q) ⊎ ((c : TextCode) × FaultOf text c)

module _ (laws : TextLaws) (g : Graph) (limit : ℕ) (text : List ℕ) where
  pub some_asked : (reply : Reply) × IsReply g limit text reply
  some_asked = elim (laws.some_query text) [
    | inl s ↦ let r = some_reply_to g limit s.0 (asks_for_one text s.0 s.1) in (r.0, of_read g limit text s.0 s.1 r.0 r.1)
    | inr f ↦ (Bad f.0, f.1)
  ]

  pub one_asked : (x y : Reply) → IsReply g limit text x → IsReply g limit text y → x ≡ y
  one_asked x y a b = by_cases (read_or_bad g limit text x a) (read_or_bad g limit text y b)
    where
      Cases : Reply → Type 0
      Cases r = ((q : QueryTerm) × Reads text q × IsReplyTo g limit q r) ⊎ ((c : TextCode) × FaultOf text c × (r ≡ Bad c))

      by_cases : Cases x → Cases y → x ≡ y
      by_cases (inl (p, r, h)) (inl (q, s, k)) = one_reply_to g limit q x y (subst (λ (q : QueryTerm). IsReplyTo g limit q x) (laws.one_query text p q r s) h) k
      by_cases (inl (p, r, h)) (inr (d, f, e)) = absurd (laws.apart text p d r f)
      by_cases (inr (c, f, e)) (inl (q, s, k)) = absurd (laws.apart text q c s f)
      by_cases (inr (c, f, e)) (inr (d, h, k)) = e ∙ ap Bad (laws.one_fault text c d f h) ∙ sym k
