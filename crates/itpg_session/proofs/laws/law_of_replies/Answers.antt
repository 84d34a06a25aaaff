use Rattle.itpg_graph.proofs.Goodness.{good_none}
use Rattle.itpg_session.proofs.OneTurn.{one_reply}
use Rattle.itpg_session.proofs.GoodTurn.{good_reply}
use Rattle.itpg_session.proofs.SomeTurn.{some_reply}
use Rattle.itpg_session.proofs.laws.law_of_replies.Goals as goal

pub returns-clause-one : goal.returns-clause-one
returns-clause-one c = one_reply (record {
  lines = record {
    some = c.law_of_lines.ensures.some;
    one = c.law_of_lines.ensures.one;
    moments = c.law_of_moments.ensures;
    labels = c.law_of_labels.ensures;
    words = c.law_of_names.ensures;
    some_json = c.law_of_json_lines.ensures.some;
    one_json = c.law_of_json_lines.ensures.one;
    json_moments = c.law_of_json_lines.ensures.moments;
    json_labels = c.law_of_json_lines.ensures.labels;
    json_words = c.law_of_json_lines.ensures.words;
  };
  rules = c.law_of_rules.ensures.some;
  good_next = c.law_of_next.ensures.good;
  one_next = c.law_of_next.ensures.one;
  some_next = c.law_of_next.ensures.some;
  texts = record {
    one_query = c.law_of_queries.ensures.one;
    one_fault = c.law_of_queries.ensures.first;
    apart = c.law_of_queries.ensures.apart;
    some_query = c.law_of_queries.ensures.some;
  };
  near = record {
    exists = c.law_of_near_rows.ensures.exists;
    one = c.law_of_near_rows.ensures.one;
  };
  one_rest = c.law_of_changes.ensures.one;
  some_rest = c.law_of_changes.ensures.some;
})

pub returns-clause-some : goal.returns-clause-some
returns-clause-some c = some_reply (record {
  lines = record {
    some = c.law_of_lines.ensures.some;
    one = c.law_of_lines.ensures.one;
    moments = c.law_of_moments.ensures;
    labels = c.law_of_labels.ensures;
    words = c.law_of_names.ensures;
    some_json = c.law_of_json_lines.ensures.some;
    one_json = c.law_of_json_lines.ensures.one;
    json_moments = c.law_of_json_lines.ensures.moments;
    json_labels = c.law_of_json_lines.ensures.labels;
    json_words = c.law_of_json_lines.ensures.words;
  };
  rules = c.law_of_rules.ensures.some;
  good_next = c.law_of_next.ensures.good;
  one_next = c.law_of_next.ensures.one;
  some_next = c.law_of_next.ensures.some;
  texts = record {
    one_query = c.law_of_queries.ensures.one;
    one_fault = c.law_of_queries.ensures.first;
    apart = c.law_of_queries.ensures.apart;
    some_query = c.law_of_queries.ensures.some;
  };
  near = record {
    exists = c.law_of_near_rows.ensures.exists;
    one = c.law_of_near_rows.ensures.one;
  };
  one_rest = c.law_of_changes.ensures.one;
  some_rest = c.law_of_changes.ensures.some;
})

pub returns-clause-good : goal.returns-clause-good
returns-clause-good c = good_reply (record {
  lines = record {
    some = c.law_of_lines.ensures.some;
    one = c.law_of_lines.ensures.one;
    moments = c.law_of_moments.ensures;
    labels = c.law_of_labels.ensures;
    words = c.law_of_names.ensures;
    some_json = c.law_of_json_lines.ensures.some;
    one_json = c.law_of_json_lines.ensures.one;
    json_moments = c.law_of_json_lines.ensures.moments;
    json_labels = c.law_of_json_lines.ensures.labels;
    json_words = c.law_of_json_lines.ensures.words;
  };
  rules = c.law_of_rules.ensures.some;
  good_next = c.law_of_next.ensures.good;
  one_next = c.law_of_next.ensures.one;
  some_next = c.law_of_next.ensures.some;
  texts = record {
    one_query = c.law_of_queries.ensures.one;
    one_fault = c.law_of_queries.ensures.first;
    apart = c.law_of_queries.ensures.apart;
    some_query = c.law_of_queries.ensures.some;
  };
  near = record {
    exists = c.law_of_near_rows.ensures.exists;
    one = c.law_of_near_rows.ensures.one;
  };
  one_rest = c.law_of_changes.ensures.one;
  some_rest = c.law_of_changes.ensures.some;
})

pub returns-clause-opening : goal.returns-clause-opening
returns-clause-opening c = record { graph = good_none; differ = tt; asks = λ w a. absurd a; kinds = λ w a. absurd a; pins = tt; follows = tt; words = record { objects = λ x a. absurd a; watches = λ w a. absurd a; pins = λ p a. absurd a; follows = λ f a. absurd a } }
