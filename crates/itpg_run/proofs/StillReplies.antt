-- What is asked of a pin has the reply that it has without the edits since the pin was opened.
use Rattle.std.proofs.Common.{◌≡◌, ℕ, suc, ◌+◌, ◌<◌, inl, inr, List, [], ◌∷◌, ◌++◌, length, Option, refl, ap, ◌∙◌, sym, subst, append_assoc, arith, true≢false}
use Rattle.std.proofs.lemmas.List.{length-append}
use Rattle.std.specs.Prelude.{Result, Ok}
use Rattle.itpg_base.specs.Words.{Word}
use Rattle.itpg_base.specs.Graphs.{Graph}
use Rattle.itpg_base.specs.declared.text_code.TextCode.{TextCode}
use Rattle.script_lex.specs.Lines.{Placed}
use Rattle.edit_reader.specs.Readings.{Reading, Nothing, Closes, AsksIn, Follows, Nears, Unfollows}
use Rattle.edit_reader.specs.Faults.{OfTokens, HasFault}
use Rattle.edit_reader.specs.Lines.{LineOf}
use Rattle.itpg_session.specs.Machine.{Machine, IsGood, opening}
use Rattle.itpg_session.specs.MachineLaws.{OneAsked}
use Rattle.itpg_run.specs.Out.{plain, Output, LineOut, Runs, Then}
use Rattle.itpg_run.specs.Still.{IsStilled, AreStill}
use Rattle.itpg_run.specs.StillLaws.{IsOpened, NoneCloses, StillReplies}
use Rattle.itpg_run.proofs.MachineLaws.{Laws}
use Rattle.itpg_run.proofs.Running.{runs-part, one_run, good_run}
use Rattle.itpg_run.proofs.PinStays.{Holds, AllStay, run_holds, opened_holds}
use Rattle.itpg_run.proofs.PinReplies.{one_in_both}
use Rattle.itpg_run.proofs.StillLists.{Lines, same_split, between, AllStilled, still_part, still_before, still_between, still_head}

-- the laws of the machine, of lines, and of query texts
pub record Below : Type 0 where
  pub machine : Laws
  pub one_line : (line : List ℕ) (a b : Result Reading TextCode) → LineOf line a → LineOf line b → a ≡ b
  pub one_asked : OneAsked

-- ---- an empty line asks for nothing

no_tokens : (P : List Placed → Option TextCode → Type 0) → ¬ OfTokens [] P
no_tokens P of = true≢false of.0

blank_line : LineOf [] (Ok Nothing)
blank_line = (none, inl (refl, refl))
  where
    none : (code : TextCode) → ¬ HasFault [] code
    none TextCode.Long h = absurd (omega (arith, h))
    none TextCode.Byte h = no_tokens _ h
    none TextCode.Tokens h = no_tokens _ h
    none TextCode.Deep h = h
    none TextCode.Text h = no_tokens _ h
    none TextCode.Number h = no_tokens _ h
    none TextCode.Name h = no_tokens _ h
    none TextCode.Range h = h
    none TextCode.Names h = h
    none TextCode.Terms h = h

-- ---- no line closes the pin

module _ (lines : Lines) (i j : ℕ) (name : Word) (none : NoneCloses lines i j name) where
  all_stay : (front middle rest : Lines) → lines ≡ front ++ (middle ++ rest) → i < length front + 1 → length front + length middle < j → AllStay name middle
  all_stay front [] rest e lt le = tt
  all_stay front (x ∷ xs) rest e lt le =
      let more : length (front ++ x ∷ []) ≡ length front + 1 = length-append front (x ∷ []) in
      (none front (xs ++ rest) x e lt (omega (arith, le)), all_stay (front ++ x ∷ []) xs rest (e ∙ sym (append_assoc front (x ∷ []) (xs ++ rest))) (omega (arith, lt, more)) (omega (arith, le, more)))

stilled_stay : Below → (name : Word) (xs ys : Lines) → AllStilled xs ys → AllStay name xs → AllStay name ys
stilled_stay below name [] [] a stay = tt
stilled_stay below name [] (y ∷ ys) a stay = absurd a
stilled_stay below name (x ∷ xs) [] a stay = absurd a
stilled_stay below name (x ∷ xs) (y ∷ ys) a stay = (head a.0, stilled_stay below name xs ys a.1 stay.1)
  where
    never : LineOf [] (Ok (Closes name)) → ⊥
    never is = let e = below.one_line [] (Ok Nothing) (Ok (Closes name)) blank_line is in let no : ⊥ = cc in no

    head : IsStilled x y → LineOf y (Ok (Closes name)) → ⊥
    head (inl b) is = never (subst (λ (l : List ℕ). LineOf l (Ok (Closes name))) b.1 is)
    head (inr b) is = stay.0 (subst (λ (l : List ℕ). LineOf l (Ok (Closes name))) b.1 is)

-- ---- the pin stands where it is asked

-- the first of more lines
runs_first : (limit : ℕ) (m : Machine) (number : ℕ) (x : List ℕ) (xs : Lines) (o : Output) → Runs (plain limit) m number (x ∷ xs) o → Then (LineOut (plain limit) m number x) (λ next rest. Runs (plain limit) next (number + 1) xs rest) o
unfolding Runs
runs_first limit m number x xs o r = r

record Reached (name : Word) (g : Graph) (m : Machine) : Type 0 where
  holds : Holds name g m
  good : IsGood m

module _ (below : Below) (limit : ℕ) (name : Word) where
  -- behind the line that opens it, and lines of which none closes it
  reached : (front middle : Lines) (line : List ℕ) (opens : Output) → Runs (plain limit) opening 1 front opens → IsOpened name opens.next line → AllStay name middle
      → (t : Output) → Runs (plain limit) opening 1 (front ++ line ∷ middle) t → Reached name opens.next.graph t.next
  reached front middle line opens runs is stay t all =
      let p = runs-part (plain limit) opening 1 front (line ∷ middle) t all in
      let same : p.front ≡ opens = one_run below.machine (plain limit) opening 1 front p.front opens below.machine.opening p.runs runs in
      let on : Runs (plain limit) opens.next (1 + length front) (line ∷ middle) p.rest = subst (λ (u : Output). Runs (plain limit) u.next (1 + length front) (line ∷ middle) p.rest) same p.goes_on in
      let r = runs_first limit opens.next (1 + length front) line middle p.rest on in
      let begins : Holds name opens.next.graph r.first.next = opened_holds below.one_line limit opens.next (1 + length front) line name r.first is r.begins in
      let here : Holds name opens.next.graph r.rest.next = run_holds name opens.next.graph limit r.first.next (1 + length front + 1) middle r.rest stay begins r.goes_on in
      let last : t.next ≡ r.rest.next = ap (λ (u : Output). u.next) p.is ∙ ap (λ (u : Output). u.next) r.is in
      record {
        holds = subst (Holds name opens.next.graph) (sym last) here;
        good = good_run below.machine (plain limit) opening 1 (front ++ line ∷ middle) t below.machine.opening all;
      }

pub still_replies : Below → StillReplies
still_replies below limit lines others i j name text x y o a lt none still p q =
    -- line j is the one that asks
    let one = same_split p.front a.front p.line a.line p.rest a.rest (sym p.split ∙ a.split) (let n = p.count in let m = a.count in omega (arith, n, m)) in
    let is : LineOf p.line (Ok (AsksIn name text)) = subst (λ (l : List ℕ). LineOf l (Ok (AsksIn name text))) (sym one.line) a.is in
    -- it is behind line i
    let later : length o.front < length p.front = (let n = p.count in let m = o.count in omega (arith, n, m, lt)) in
    let b = between o.front p.front o.line p.line o.rest p.rest (sym o.split ∙ p.split) later in
    let long : length p.front ≡ length o.front + suc (length b.middle) = ap length b.is ∙ length-append o.front (o.line ∷ b.middle) in
    -- no line between closes the pin
    let up_to : length (o.front ++ o.line ∷ []) ≡ length o.front + 1 = length-append o.front (o.line ∷ []) in
    let whole : lines ≡ (o.front ++ o.line ∷ []) ++ (b.middle ++ p.line ∷ p.rest) =
    p.split ∙ ap (λ (f : Lines). f ++ p.line ∷ p.rest) b.is ∙ append_assoc o.front (o.line ∷ b.middle) (p.line ∷ p.rest) ∙ sym (append_assoc o.front (o.line ∷ []) (b.middle ++ p.line ∷ p.rest)) in
    let stay : AllStay name b.middle = all_stay lines i j name none (o.front ++ o.line ∷ []) b.middle (p.line ∷ p.rest) whole (let n = o.count in omega (arith, n, up_to)) (let n = p.count in omega (arith, n, up_to, long)) in
    -- the other lines, part by part
    let cut = still_part i j 1 (o.front ++ o.line ∷ []) (b.middle ++ p.line ∷ p.rest) others (subst (λ (ls : Lines). AreStill 1 i j ls others) whole still) in
    let first : cut.front ≡ o.front ++ o.line ∷ [] = still_before i j 1 (o.front ++ o.line ∷ []) cut.front cut.before (let n = o.count in omega (arith, n, up_to)) in
    let next = still_part i j (1 + length (o.front ++ o.line ∷ [])) b.middle (p.line ∷ p.rest) cut.rest cut.behind in
    let middle : AllStilled b.middle next.front = still_between i j (1 + length (o.front ++ o.line ∷ [])) b.middle next.front next.before (let n = o.count in omega (arith, n, up_to)) (let n = p.count in omega (arith, n, up_to, long)) in
    let quiet : AllStay name next.front = stilled_stay below name b.middle next.front middle stay in
    let head = still_head i j (1 + length (o.front ++ o.line ∷ []) + length b.middle) p.line p.rest next.rest next.behind (let n = p.count in omega (arith, n, up_to, long)) in
    let before : Lines = o.front ++ o.line ∷ next.front in
    let all : others ≡ before ++ p.line ∷ head.0 =
    cut.is ∙ ap (λ (f : Lines). f ++ cut.rest) first ∙ ap (λ (r : Lines). (o.front ++ o.line ∷ []) ++ r) (next.is ∙ ap (λ (r : Lines). next.front ++ r) head.1)
    ∙ append_assoc o.front (o.line ∷ []) (next.front ++ p.line ∷ head.0) ∙ sym (append_assoc o.front (o.line ∷ next.front) (p.line ∷ head.0)) in
    let size : length before ≡ length o.front + suc (length next.front) = length-append o.front (o.line ∷ next.front) in
    let two = same_split q.front before q.line p.line q.rest head.0 (sym q.split ∙ all) (let n = q.count in let m = p.count in let w = next.long in omega (arith, n, m, w, size, long)) in
    -- the pin stands in both
    let x_there = reached below limit name o.front b.middle o.line o.output o.runs o.is stay p.output (subst (λ (f : Lines). Runs (plain limit) opening 1 f p.output) b.is p.runs) in
    let y_there = reached below limit name o.front next.front o.line o.output o.runs o.is quiet q.output (subst (λ (f : Lines). Runs (plain limit) opening 1 f q.output) two.front q.runs) in
    one_in_both below.one_line below.one_asked limit j name text o.output.next.graph p.output.next q.output.next p.line is x_there.holds x_there.good y_there.holds y_there.good x y p.is (subst (λ (l : List ℕ). LineOut (plain limit) q.output.next j l y) two.line q.is)
