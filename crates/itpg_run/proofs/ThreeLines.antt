-- A summary has three lines.
use Rattle.std.proofs.Common.{◌≡◌, inl, inr, ℕ, ◌+◌, List, [], ◌∷◌, ◌++◌, drop, Option, None, Result, Ok, refl, sym, ap, subst, ◌∙◌, true≢false}
use Rattle.std.specs.Prelude.{IsSome, IsSomeAnd}
use Rattle.itpg_base.specs.Graphs.{Graph, Good}
use Rattle.itpg_base.specs.declared.rule_code.RuleCode.{RuleCode}
use Rattle.itpg_base.specs.declared.text_code.TextCode.{TextCode}
use Rattle.itpg_edit.specs.declared.edit.Edit.{Edit}
use Rattle.itpg_edit.specs.Rules.{Unbroken, Broken, FirstOf}
use Rattle.itpg_edit.specs.Next.{Next}
use Rattle.itpg_edit.specs.Sites.{HasMoments, HasLabels}
use Rattle.edit_reader.specs.Readings.{Reading, Changes}
use Rattle.edit_reader.specs.Lines.{LineOf}
use Rattle.edit_reader.specs.Moments.{AsksOfMoments, AsksForLabels}
use Rattle.path_ast.specs.Terms.{QueryTerm}
use Rattle.match_parser.specs.Reading.{Reads, FaultOf}
use Rattle.path_eval.specs.Answering.{AnswersQuery}
use Rattle.itpg_session.specs.Questions.{IsTooWide}
use Rattle.itpg_session.specs.Rules.{QueryBreaks, ask_rules}
use Rattle.itpg_session.specs.Replies.{Reply, Silent, Bad, Refused, Wide, Rows, Counted, Shown, OfPin, PerWatch, IsReply}
use Rattle.itpg_session.specs.Machine.{Machine, Turn, opening, Replies, TurnOf, Answers}
use Rattle.trial_script.specs.Script.{Text, AskNothing, edits, ask_lines, risk_line, contact_line, alone_line, script}
use Rattle.itpg_run.specs.Summary.{Told, told_both, told_of, Tells}
use Rattle.itpg_run.specs.ScriptEdits.{AllRead, EachEditReads, changes}
use Rattle.itpg_run.specs.ScriptQueries.{risk_query, contact_query, alone_query, risk_text, contact_text, alone_text, AsksQuery, EachQuestionReads}
use Rattle.itpg_run.specs.ScriptGraph.{unbegun, script_graph, Lead, EachScriptBuilds}
use Rattle.itpg_run.specs.ThreeLines.{IsLine, IsThreeLines, EachHasThreeLines}
use Rattle.itpg_run.proofs.Telling.{told_both-nothing}

-- what is known of lines, edits and query texts
pub record ScriptLaws : Type 0 where
  pub one_line : (line : List ℕ) (a b : Result Reading TextCode) → LineOf line a → LineOf line b → a ≡ b
  pub moments : (line : List ℕ) (reading : Reading) → LineOf line (Ok reading) → AsksOfMoments reading
  pub labels : (line : List ℕ) (reading : Reading) → LineOf line (Ok reading) → AsksForLabels reading
  pub apart_edit : (g : Graph) (edit : Edit) (rule : RuleCode) → Broken g edit rule → Unbroken g edit → ⊥
  pub one_next : (g x y : Graph) (edit : Edit) → Good g → Next g edit x → Next g edit y → x ≡ y
  pub good_next : (g new : Graph) (edit : Edit) → Good g → HasMoments edit → HasLabels edit → Unbroken g edit → Next g edit new → Good new
  pub one_query : (text : List ℕ) (p q : QueryTerm) → Reads text p → Reads text q → p ≡ q
  pub apart_query : (text : List ℕ) (q : QueryTerm) (code : TextCode) → Reads text q → FaultOf text code → ⊥
  pub lines : EachEditReads
  pub questions : EachQuestionReads
  pub graphs : EachScriptBuilds
  pub others : (number : ℕ) → AskNothing (edits number)
  pub good_opening : Good unbegun

-- behind the edits, on the graph that they build
pub record Behind (limit : ℕ) (last : Graph) (k : ℕ) (rest : List Text) (all : Told) : Type 0 where
  pub machine : Machine
  pub graph : machine.graph ≡ last
  pub tells : Tells limit machine k rest all

-- the turn of an edit that breaks no rule
next_graph : ScriptLaws → (limit : ℕ) (m : Machine) (line : Text) (edit : Edit) (next : Graph) (t : Turn) → Good m.graph → LineOf line (Ok (Changes edit)) → Unbroken m.graph edit → Next m.graph edit next
    → Replies limit m (LineOf line) t → t.next.graph ≡ next
unfolding TurnOf Answers
next_graph laws limit m line edit next t good reads unbroken goes replies =
    by_answer (subst (λ (what : Result Reading TextCode). TurnOf limit m what t) (laws.one_line line replies.what (Ok (Changes edit)) replies.line_of reads) replies.turn)
  where
    by_answer : TurnOf limit m (Ok (Changes edit)) t → t.next.graph ≡ next
    by_answer (inl refused) = absurd (laws.apart_edit m.graph edit refused.rule refused.first unbroken)
    by_answer (inr made) = ap (λ (x : Turn). x.next.graph) made.is ∙ laws.one_next m.graph made.graph next edit good made.makes.next goes

behind : ScriptLaws → (limit : ℕ) (m : Machine) (k : ℕ) (lines rest : List Text) (es : List Edit) (last : Graph) (all : Told) → AllRead lines es → AskNothing lines → Good m.graph → Lead m.graph es last
    → Tells limit m k (lines ++ rest) all → Behind limit last k rest all
unfolding Tells
behind laws limit m k [] rest [] last all reads others good lead tells = record { machine = m; graph = lead; tells = tells }
behind laws limit m k [] rest (e ∷ es) last all reads others good lead tells = absurd reads
behind laws limit m k (l ∷ ls) rest [] last all reads others good lead tells = absurd reads
behind laws limit m k (l ∷ ls) rest (e ∷ es) last all reads others good lead (inl asked) = absurd (others.0 asked.query asked.asks)
behind laws limit m k (l ∷ ls) rest (e ∷ es) last all reads others good lead (inr told) =
    let same = next_graph laws limit m l e lead.0 told.turn good reads.0 lead.1 lead.2 told.replies in
    let good_next = laws.good_next m.graph lead.0 e good (laws.moments l (Changes e) reads.0) (laws.labels l (Changes e) reads.0) lead.1 lead.2 in
    behind laws limit told.turn.next k ls rest es last all reads.1 others.1 (subst Good (sym same) good_next) (subst (λ (g : Graph). Lead g es last) (sym same) lead.3) told.goes_on

-- a question on a graph that is begun: its line, and what the lines behind it tell
pub record Line (limit : ℕ) (m : Machine) (k : ℕ) (q : QueryTerm) (rest : List Text) (all : Told) : Type 0 where
  pub line : Told
  pub is_line : IsLine limit m.graph k q line
  pub others : Told
  pub tells : Tells limit m (k + 1) rest others
  pub is : all ≡ told_both line others

not_refused : (g : Graph) (q : QueryTerm) (rule : RuleCode) → IsSome g.begun → q.graph_name ≡ None → FirstOf (QueryBreaks g q) ask_rules rule → ⊥
not_refused g q rule begun any (inl none) = true≢false (sym begun ∙ none.0)
not_refused g q rule begun any (inr (_, inl another)) = subst (λ (name : Option (List ℕ)). IsSomeAnd name (λ n. IsSomeAnd g.begun (λ b. ¬ (b.name ≡ n)))) any another.0
not_refused g q rule begun any (inr (_, inr never)) = never.1

asked_line : ScriptLaws → (limit : ℕ) (m : Machine) (k : ℕ) (line text : Text) (q : QueryTerm) (rest : List Text) (all : Told) → AsksQuery line text q → IsSome m.graph.begun
    → Tells limit m k (line ∷ rest) all → Line limit m k q rest all
unfolding Tells
asked_line laws limit m k line text q rest all asks begun (inr told) = absurd (told.others text asks.asks)
asked_line laws limit m k line text q rest all asks begun (inl asked) =
    let same : asked.query ≡ text = ap (drop 4) (sym asked.asks ∙ asks.asks) in
    by_reply asked.reply refl (subst (λ (t : Text). IsReply m.graph limit t asked.reply) same asked.replies)
  where
    line_of : (reply : Reply) → asked.reply ≡ reply → IsLine limit m.graph k q (told_of k reply) → Line limit m k q rest all
    line_of reply e is = record { line = told_of k reply; is_line = is; others = asked.rest; tells = asked.goes_on; is = asked.is ∙ ap (λ (r : Reply). told_both (told_of k r) asked.rest) e }

    by_reply : (reply : Reply) → asked.reply ≡ reply → IsReply m.graph limit text reply → Line limit m k q rest all
    by_reply (Bad code) e fault = absurd (laws.apart_query text q code asks.reads fault)
    by_reply (Refused rule) e r =
        absurd (not_refused m.graph q rule begun asks.of_any (subst (λ (p : QueryTerm). FirstOf (QueryBreaks m.graph p) ask_rules rule) (laws.one_query text r.0 q r.1 asks.reads) r.2))
    by_reply Silent e r = absurd r.2.1
    by_reply (Counted counts) e r = absurd r.2.1
    by_reply (Shown place found) e r = absurd r.2.1
    by_reply (OfPin place answer) e r = absurd r.2.1
    by_reply (PerWatch found) e r = absurd r.2.1
    by_reply Wide e r =
        line_of Wide e (inl (record { wide = subst (λ (p : QueryTerm). IsTooWide m.graph limit p) (laws.one_query text r.0 q r.1 asks.reads) r.2.1; is = refl }))
    by_reply (Rows answer) e r =
        let same : r.0 ≡ q = laws.one_query text r.0 q r.1 asks.reads in
        line_of (Rows answer) e (inr (record {
          narrow = subst (λ (p : QueryTerm). ¬ IsTooWide m.graph limit p) same r.2.1.0;
          answer = answer;
          answers = subst (λ (p : QueryTerm). AnswersQuery m.graph p answer) same r.2.1.1;
          is = refl;
        }))

-- the three questions, on the graph of the script
three : ScriptLaws → (limit : ℕ) (m : Machine) (seed : ℕ) (all : Told) → m.graph ≡ script_graph seed → Tells limit m 1 ask_lines all → IsThreeLines limit seed all
unfolding Tells ask_lines script_graph
three laws limit m seed all graph tells =
    let begun : IsSome m.graph.begun = subst (λ (g : Graph). IsSome g.begun) (sym graph) refl in
    let a = asked_line laws limit m 1 risk_line risk_text risk_query (contact_line ∷ alone_line ∷ []) all laws.questions.risk begun tells in
    let b = asked_line laws limit m 2 contact_line contact_text contact_query (alone_line ∷ []) a.others laws.questions.contact begun a.tells in
    let c = asked_line laws limit m 3 alone_line alone_text alone_query [] b.others laws.questions.alone begun b.tells in
    record {
      risk = a.line;
      contact = b.line;
      alone = c.line;
      first = subst (λ (g : Graph). IsLine limit g 1 risk_query a.line) graph a.is_line;
      second = subst (λ (g : Graph). IsLine limit g 2 contact_query b.line) graph b.is_line;
      third = subst (λ (g : Graph). IsLine limit g 3 alone_query c.line) graph c.is_line;
      is = a.is ∙ ap (told_both a.line) (b.is ∙ ap (told_both b.line) (c.is ∙ ap (told_both c.line) c.tells ∙ told_both-nothing c.line));
    }

pub three_lines : ScriptLaws → EachHasThreeLines
unfolding script
three_lines laws limit number all summary =
    let last = behind laws limit opening 1 (edits number) ask_lines (changes number) (script_graph number) all (laws.lines number) (laws.others number) laws.good_opening (laws.graphs.builds number) summary in
    three laws limit last.machine number all last.graph last.tells
