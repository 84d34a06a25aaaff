use Rattle.itpg_run.proofs.ThreeLines.{three_lines}
use Rattle.itpg_run.proofs.script_law.law_of_three_lines.Goals as goal

pub returns : goal.returns
returns c = three_lines (record {
  one_line = c.law_of_lines.ensures.one;
  moments = c.law_of_moments.ensures;
  labels = c.law_of_labels.ensures;
  apart_edit = c.law_of_rules.ensures.apart;
  one_next = c.law_of_next.ensures.one;
  good_next = c.law_of_next.ensures.good;
  one_query = c.law_of_queries.ensures.one;
  apart_query = c.law_of_queries.ensures.apart;
  lines = c.law_of_script_lines.ensures.edits;
  questions = c.law_of_script_lines.ensures.questions;
  graphs = c.law_of_script_graphs.ensures;
  others = c.law_of_questions.ensures.others;
  good_opening = c.law_of_replies.ensures.opening.graph;
})
