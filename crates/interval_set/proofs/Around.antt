-- The neighbours of a span in a list of runs, from the two searches for its ends.
use Rattle.std.proofs.Common.{⊎_elim, ℕ, ◌≤◌, ◌<◌, pos, ◌+ℤ◌, ◌≤ℤ◌, ◌<ℤ◌, List, [], length, get_or, take, drop, All, arith}
use Rattle.std.proofs.lemmas.Bool.{cases_lt}
use Rattle.std.proofs.lemmas.Int.{ints}
use Rattle.itpg_base.specs.Spans.{Span, IsSpan}
use Rattle.itpg_base.specs.Graphs.{Valued, AreRunsOfValues}
use Rattle.interval_set.specs.Places.{IsNear, AreNeighbours}
use Rattle.itpg_base.proofs.Lists.{among_at, among_take}
use Rattle.interval_set.proofs.Rising.{each_run_span}
use Rattle.interval_set.proofs.Searched.{at_take, at_drop, at_middle}

pub neighbours_from : (xs : List Valued) (s : Span) (first last : ℕ) → AreRunsOfValues xs → IsSpan s → first ≤ length xs → last ≤ length xs
    → All (λ r. (r.span.to +ℤ pos 1) <ℤ s.from) (take first xs) → All (λ r. s.from ≤ℤ (r.span.to +ℤ pos 1)) (drop first xs)
    → All (λ r. r.span.from ≤ℤ (s.to +ℤ pos 1)) (take last xs) → All (λ r. (s.to +ℤ pos 1) <ℤ r.span.from) (drop last xs) → AreNeighbours xs s first last
neighbours_from xs s first last c span within within' before reaching reached after = record {
  ordered = ⊎_elim
      (λ lt.
      let inside : last < length xs = omega arith in
      let d : Valued = record { span = s; value = [] } in
      let own : (get_or xs last d).span.from ≤ℤ (get_or xs last d).span.to = each_run_span xs (get_or xs last d) c (among_at xs last d inside) in
      let early = at_take (λ r. (r.span.to +ℤ pos 1) <ℤ s.from) xs first last d before lt inside in
      let late = at_drop (λ r. (s.to +ℤ pos 1) <ℤ r.span.from) xs last last d after (omega arith) inside in
      let s_span : s.from ≤ℤ s.to = span in
      absurd (omega (arith, ints)))
      (λ le. le) (cases_lt last first);
  within = within';
  before = before;
  near = at_middle (λ r. IsNear r.span s) xs first last (λ k d above below inside. record {
    from = at_drop (λ r. s.from ≤ℤ (r.span.to +ℤ pos 1)) xs first k d reaching above inside;
    to = at_take (λ r. r.span.from ≤ℤ (s.to +ℤ pos 1)) xs last k d reached below inside;
  });
  after = after;
}

-- the runs that end apart before a span have begun by its end
pub begun_before : (xs : List Valued) (s : Span) (first : ℕ) → AreRunsOfValues xs → IsSpan s → All (λ r. (r.span.to +ℤ pos 1) <ℤ s.from) (take first xs) → All (λ r. r.span.from ≤ℤ (s.to +ℤ pos 1)) (take first xs)
begun_before xs s first c span before k d lt =
    let r = get_or (take first xs) k d in
    let own : r.span.from ≤ℤ r.span.to = each_run_span xs r c (among_take xs first r (among_at (take first xs) k d lt)) in
    let apart : (r.span.to +ℤ pos 1) <ℤ s.from = before k d lt in
    let s_span : s.from ≤ℤ s.to = span in
    omega (arith, ints)
