-- What is told of the rows that were worked out for a query is what is found for it.
use Rattle.std.proofs.Common.{◌≡◌, inl, inr, ℕ, List, Bool, true, false, Option, None, Some, refl, subst}
use Rattle.std.specs.Prelude.{Result, Ok, Err, IfOk, OnOk, MatchResult}
use Rattle.itpg_base.specs.Graphs.{Graph}
use Rattle.itpg_base.specs.Points.{Point, Relation}
use Rattle.itpg_base.specs.declared.rule_code.RuleCode.{RuleCode}
use Rattle.edit_reader.specs.declared.line.Wanted.{Wanted}
use Rattle.edit_reader.specs.declared.line.Wanted.TheVariants.{First, Last, Count}
use Rattle.edit_reader.specs.Readings.{Wants}
use Rattle.path_ast.specs.Terms.{PathTerm, QueryTerm}
use Rattle.path_ast.specs.Meaning.{Rel}
use Rattle.relation_rows.specs.declared.rows.Row.{Row}
use Rattle.relation_rows.specs.declared.rows.RelFault.{RelFault}
use Rattle.relation_rows.specs.declared.rows.RelFault.TheVariants.{Memory, Wide as TooWide}
use Rattle.relation_rows.specs.declared.times.OneRow.{OneRow}
use Rattle.relation_rows.specs.Rows.{NormalRows, RowsHold}
use Rattle.relation_rows.specs.Times.{TimesHold}
use Rattle.relation_rows.specs.Answers.{Gives}
use Rattle.relation_rows.specs.Answered.{Answered, pairs, times}
use Rattle.relation_rows.proofs.Alike.{rows_hold, hold_only}
use Rattle.relation_rows.proofs.Giving.{gives_alike}
use Rattle.path_eval.specs.Answering.{IsAnswer}
use Rattle.arrivals.specs.declared.counts.CountRow.{CountRow}
use Rattle.arrivals.specs.Firsts.{Least, Latest}
use Rattle.arrivals.specs.Counting.{GivesCounts}
use Rattle.arrivals.proofs.CountExists.{counts_exist}
use Rattle.itpg_session.specs.declared.reply.Reply.{Reply as ReplyValue}
use Rattle.itpg_session.specs.Replies.{Reply, Refused, Wide, Rows, Counted, IsReplyTo, line_reply}
use Rattle.itpg_session.specs.Wanting.{Outcome, Chosen, Counts, has_ends, IsOutcome, FindsWanted, reply_with, IsReplyWantedOf, IsReplyWanted, TellsFound}
use Rattle.itpg_session.specs.Keeping.{KeepsText}
use Rattle.itpg_session.specs.Machine.{Standing, Answers}
use Rattle.itpg_session.specs.Steps.{IsAlike, Decides, KeepsAsked}
use Rattle.itpg_session.proofs.Answering.{wants_answers}
use Rattle.itpg_session.proofs.Told.{said_alike}
use Rattle.itpg_session.proofs.WantedReplies.{some_first, some_last, one_time}

least_alike : (R S : Relation) → ((x y : Point) → R x y → S x y) → ((x y : Point) → S x y → R x y) → (x y : Point) → Least R x y → Least S x y
least_alike R S f h x y l = (f x y l.0, λ v lt s. l.1 v lt (h _ _ s))

latest_alike : (R S : Relation) → ((x y : Point) → R x y → S x y) → ((x y : Point) → S x y → R x y) → (x y : Point) → Latest R x y → Latest S x y
latest_alike R S f h x y l = (f x y l.0, λ v lt s. l.1 v lt (h _ _ s))

pairs_normal : (first last : Bool) (R : Relation) (rows : List Row) → IsAnswer first last R (pairs rows) → NormalRows R rows
pairs_normal true true R rows n = n
pairs_normal true false R rows n = absurd n
pairs_normal false true R rows n = absurd n
pairs_normal false false R rows n = absurd n

-- ---- rows

module _ (wanted : Wanted) (Kept : Relation → Relation)
    (alike : (R S : Relation) → ((x y : Point) → R x y → S x y) → ((x y : Point) → S x y → R x y) → (x y : Point) → Kept R x y → Kept S x y)
    (exist : (g : Graph) (p : PathTerm) → (rows : List Row) × NormalRows (Kept (Rel p g)) rows)
    (comes : (g : Graph) (q : QueryTerm) (rows : List Row) → NormalRows (Kept (Rel q.path g)) rows → IsOutcome g wanted q (Chosen rows)) where
  told_chosen : (limit : ℕ) (own : List Row) (given : Result (List Row) RelFault) (reply : Reply) → Gives given (Kept (RowsHold own)) limit
      → MatchResult given (λ rows. reply ≡ Rows (pairs rows)) (λ fault. (fault ≡ TooWide) × (reply ≡ Wide)) → TellsFound wanted (pairs own) limit reply
  told_chosen limit own given reply gives told g q ends has =
      let R : Relation = Rel q.path g in
      let n : NormalRows (Rel q.path g) own = pairs_normal q.first q.last (Rel q.path g) own has.1 in
      let out = hold_only (Rel q.path g) own n in
      let back = rows_hold (Rel q.path g) own n in
      by_given given
      (gives_alike (Kept (RowsHold own)) (Kept (Rel q.path g)) (alike (RowsHold own) (Rel q.path g) out back) (alike (Rel q.path g) (RowsHold own) back out) limit given gives) told
    where
      by_given : (r : Result (List Row) RelFault) → Gives r (Kept (Rel q.path g)) limit → MatchResult r (λ rows. reply ≡ Rows (pairs rows)) (λ fault. (fault ≡ TooWide) × (reply ≡ Wide))
          → (found : Option Outcome) × FindsWanted g limit wanted q found × (reply ≡ reply_with found)
      by_given (Ok rows) h is = (Some (Chosen rows), (has.0, comes g q rows h.0, h.1), is)
      by_given (Err TooWide) h (e, is) = let w = exist g q.path in (None, inr (Chosen w.0, comes g q w.0 w.1, h w.0 w.1), is)
      by_given (Err Memory) h (e, is) = absurd (let never : ⊥ = cc in never)

pub told_first : (limit : ℕ) (own : List Row) (given : Result (List Row) RelFault) (reply : Reply) → Gives given (Least (RowsHold own)) limit
    → MatchResult given (λ rows. reply ≡ Rows (pairs rows)) (λ fault. (fault ≡ TooWide) × (reply ≡ Wide)) → TellsFound First (pairs own) limit reply
told_first = told_chosen First Least least_alike some_first (λ g q rows n. n)

pub told_last : (limit : ℕ) (own : List Row) (given : Result (List Row) RelFault) (reply : Reply) → Gives given (Latest (RowsHold own)) limit
    → MatchResult given (λ rows. reply ≡ Rows (pairs rows)) (λ fault. (fault ≡ TooWide) × (reply ≡ Wide)) → TellsFound Last (pairs own) limit reply
told_last = told_chosen Last Latest latest_alike some_last (λ g q rows n. n)

-- ---- counts

pub told_counted : (limit : ℕ) (own : List OneRow) (given : Result (List CountRow) RelFault) (reply : Reply) → GivesCounts given (TimesHold own) limit
    → MatchResult given (λ counts. reply ≡ Counted counts) (λ fault. (fault ≡ TooWide) × (reply ≡ Wide)) → TellsFound Count (times own) limit reply
told_counted limit own given reply gives told g q ends has = by_given given gives told
  where
    by_given : (r : Result (List CountRow) RelFault) → GivesCounts r (TimesHold own) limit → MatchResult r (λ counts. reply ≡ Counted counts) (λ fault. (fault ≡ TooWide) × (reply ≡ Wide))
        → (found : Option Outcome) × FindsWanted g limit Count q found × (reply ≡ reply_with found)
    by_given (Ok counts) h is = (Some (Counts counts), (has.0, (own, has.1, h.0), h.1), is)
    by_given (Err TooWide) h (e, is) =
        let c = counts_exist own (one_time q.first q.last (Rel q.path g) own has.1) in
        (None, inr (Counts c.0, (own, has.1, c.1), h c.0 c.1), is)
    by_given (Err Memory) h (e, is) = absurd (let never : ⊥ = cc in never)

-- ---- the reply to a query

module _ (g : Graph) (limit : ℕ) (wanted : Wanted) (q : QueryTerm) (ends : has_ends wanted q ≡ true) where
  pub rows_told : {E : Type 0} (answer : Answered) (most : ℕ) → most ≡ limit → IsReplyTo g limit q (Rows answer) → (result : Result ReplyValue E)
      → IfOk result (λ reply. TellsFound wanted answer most (line_reply reply)) → IfOk result (λ reply. IsReplyWantedOf g limit wanted q (line_reply reply))
  rows_told answer most same own (Ok reply) tells =
      let found = subst (λ (n : ℕ). TellsFound wanted answer n (line_reply reply)) same tells g q ends own.1 in
      inr (ends, inr (record { unbroken = own.0; found = found.0; finds = found.1; is = found.2 }))
  rows_told answer most same own (Err error) tells = tt

  pub wide_told : IsReplyTo g limit q Wide → IsReplyWantedOf g limit wanted q Wide
  wide_told own = inr (ends, inr (record { unbroken = own.0; found = None; finds = inl own.1; is = refl }))

  pub refused_told : (rule : RuleCode) → IsReplyTo g limit q (Refused rule) → IsReplyWantedOf g limit wanted q (Refused rule)
  refused_told rule own = inr (ends, inl (record { rule = rule; first = own; is = refl }))

-- ---- the reply to a line

pub wanted_decides : {E : Type 0} (wanted : Wanted) (text : List ℕ) (old new : Standing) (result : Result ReplyValue E) → IsAlike old new
    → IfOk result (λ reply. IsReplyWanted old.machine.graph old.limit wanted text (line_reply reply)) → Decides (Answers old.limit old.machine (Wants wanted text)) (Unit {0}) old new result
wanted_decides wanted text old new (Ok reply) alike is =
    said_alike old new (line_reply reply) alike (wants_answers old.limit old.machine wanted text _ (record { reply = line_reply reply; replies = is; is = refl }))
wanted_decides wanted text old new (Err error) alike is = (alike, tt)

pub wanted_kept : {E : Type 0} (wanted : Wanted) (text : List ℕ) (old new : Standing) (result : Result ReplyValue E)
    → IfOk result (λ reply. (other : Reply) → IsReplyWanted old.machine.graph old.limit wanted text other → line_reply reply ≡ other)
    → IfOk result (λ reply. (all : Outcome) → line_reply reply ≡ reply_with (Some all) → KeepsText new.machine.graph text new.table) → OnOk result (KeepsAsked (Wants wanted text) old new)
wanted_kept wanted text old new (Ok reply) only keeps = λ all is. keeps all (only (reply_with (Some all)) is)
wanted_kept wanted text old new (Err error) only keeps = tt
