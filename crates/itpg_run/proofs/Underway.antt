-- A trial, line by line.
use Rattle.std.proofs.Common.{◌≡◌, inl, inr, ℕ, ◌+◌, Bool, true, false, ◌||◌, List, [], ◌∷◌, ◌++◌, Some, None, Result, Ok, Err, IsErrOf, MatchOption, refl, ap, ◌∙◌, sym, subst, append_assoc, arith}
use Rattle.std.specs.declared.option.Option.{Option}
use Rattle.itpg_session.specs.declared.fault.StepFault.{StepFault}
use Rattle.itpg_session.specs.declared.fault.StepFault.TheVariants.{Memory, Write}
use Rattle.std.specs.Io.KnownBytes.{Appends, Keeps}
use Rattle.std.proofs.lemmas.List.{append-nil}
use Rattle.std.proofs.KnownBytes.{Appends-nil, Appends-trans, Appends-kept}
use Rattle.itpg_base.specs.Outside.{AppendsSome}
use Rattle.edit_reader.specs.Lines.{LineOf}
use Rattle.row_printer.specs.declared.form.Form.{Form}
use Rattle.itpg_session.specs.Replies.{Reply, IsReply}
use Rattle.itpg_session.specs.Machine.{Machine, Turn, IsGood, Replies, opening}
use Rattle.itpg_session.specs.Steps.{StandsAs}
use Rattle.itpg_session.specs.MachineLaws.{GoodReply}
use Rattle.trial_script.specs.Script.{Asks, script}
use Rattle.itpg_run.specs.Summary.{Told, nothing, told_both, told_of, Tells, IsSummary, TellsAll, TellsWhole, TellsSome}
use Rattle.itpg_run.specs.Underway.{TellsFrom, Takes, TakesSome, Underway}
use Rattle.itpg_run.specs.declared.trial.Running.{Running}
use Rattle.itpg_run.proofs.Telling.{Laws, joined_assoc, told_both-nothing, some_told}

-- what lines tell from here on, behind a question
behind_question : (r : Running) (line query : List ℕ) (reply : Reply) (lines : List (List ℕ)) (rest : Told) → Asks line query → IsReply r.session.machine.graph r.session.limit query reply
    → Tells r.session.limit r.session.machine (r.question + 1) lines rest → TellsFrom r (line ∷ lines) (told_both (told_of r.question reply) rest)
unfolding Tells
behind_question r line query reply lines rest asks replies goes = inl (record { query = query; asks = asks; reply = reply; replies = replies; rest = rest; goes_on = goes; is = refl })

behind_other : (r : Running) (line : List ℕ) (turn : Turn) (lines : List (List ℕ)) (rest : Told) → ((query : List ℕ) → ¬ Asks line query) → Replies r.session.limit r.session.machine (LineOf line) turn
    → Tells r.session.limit turn.next r.question lines rest → TellsFrom r (line ∷ lines) (told_both nothing rest)
unfolding Tells
behind_other r line turn lines rest others replies goes = inr (record { others = others; turn = turn; replies = replies; goes_on = goes })

-- what the session tells, the machine tells that it stands as
stands_tells : (r : Running) (m : Machine) (limit : ℕ) (lines : List (List ℕ)) (rest : Told) → StandsAs r.session m limit → TellsFrom r lines rest → Tells limit m r.question lines rest
stands_tells r m limit lines rest stands goes =
    subst (λ (l : ℕ). Tells l m r.question lines rest) stands.limit (subst (λ (n : Machine). Tells r.session.limit n r.question lines rest) stands.machine goes)

pub takes_question : (held now : Option (List ℕ)) (old new : Running) (line query text : List ℕ) (reply : Reply) → Asks line query → IsReply old.session.machine.graph old.session.limit query reply
    → text ≡ (told_of old.question reply).text → Appends held now text
    → StandsAs new.session old.session.machine old.session.limit → new.question ≡ old.question + 1 → new.wide ≡ (old.wide || (told_of old.question reply).wide) → Takes held now old new line
takes_question held now old new line query text reply asks replies is written session question wide = record {
  told = told_of old.question reply;
  goes_on = λ lines rest goes.
      behind_question old line query reply lines rest asks replies
      (subst (λ k. Tells old.session.limit old.session.machine k lines rest) question (stands_tells new old.session.machine old.session.limit lines rest session goes));
  written = subst (Appends held now) is written;
  wide = wide;
  good = λ good. subst IsGood (sym session.machine) good;
  question = omega (arith, question);
}

pub takes_some : Laws → (held now : Option (List ℕ)) (old : Running) (line query text : List ℕ) (reply : Reply) → Asks line query → IsReply old.session.machine.graph old.session.limit query reply
    → text ≡ (told_of old.question reply).text → AppendsSome held now text → TakesSome held now old line
takes_some laws held now old line query text reply asks replies is some = record {
  told = told_of old.question reply;
  goes_on = λ lines good.
      let rest = some_told laws old.session.limit old.session.machine (old.question + 1) lines good in
      (rest.0, behind_question old line query reply lines rest.0 asks replies rest.1);
  some = subst (AppendsSome held now) is some;
}

pub takes_other : GoodReply → (held : Option (List ℕ)) (old new : Running) (line : List ℕ) (turn : Turn) → ((query : List ℕ) → ¬ Asks line query) → Replies old.session.limit old.session.machine (LineOf line) turn
    → StandsAs new.session turn.next old.session.limit → new.question ≡ old.question → new.wide ≡ old.wide → Takes held held old new line
takes_other good_reply held old new line turn others replies session question wide = record {
  told = nothing;
  goes_on = λ lines rest goes.
      behind_other old line turn lines rest others replies
      (subst (λ k. Tells old.session.limit turn.next k lines rest) question (stands_tells new turn.next old.session.limit lines rest session goes));
  written = Appends-nil held;
  wide = wide ∙ or_false old.wide;
  good = λ good. subst IsGood (sym session.machine) (good_reply old.session.limit old.session.machine Form.Plain line turn good replies);
  question = omega (arith, question);
}
  where
    or_false : (a : Bool) → a ≡ (a || false)
    or_false true = refl
    or_false false = refl

pub underway_first : Laws → (limit number : ℕ) (held : Option (List ℕ)) (r : Running) → StandsAs r.session opening limit → r.question ≡ 1 → r.wide ≡ false → Underway limit number held held r (script number)
underway_first laws limit number held r session question wide = record {
  first = [];
  split = refl;
  told = nothing;
  closes = λ lines rest goes.
      subst (λ k. Tells limit opening k lines rest) question (stands_tells r opening limit lines rest session goes);
  written = Appends-nil held;
  wide = wide;
  good = subst IsGood (sym session.machine) laws.opening;
}

pub underway_more : (limit number : ℕ) (start mid now : Option (List ℕ)) (old new : Running) (line : List ℕ) (left : List (List ℕ))
    → Underway limit number start mid old (line ∷ left) → Takes mid now old new line → Underway limit number start now new left
underway_more limit number start mid now old new line left s t = record {
  first = s.first ++ line ∷ [];
  split = s.split ∙ sym (append_assoc s.first (line ∷ []) left);
  told = told_both s.told t.told;
  closes = λ lines rest goes.
      subst (Tells limit opening 1 ((s.first ++ line ∷ []) ++ lines)) (joined_assoc s.told t.told rest)
      (subst (λ ls. Tells limit opening 1 ls (told_both s.told (told_both t.told rest))) (sym (append_assoc s.first (line ∷ []) lines)) (s.closes (line ∷ lines) (told_both t.told rest) (t.goes_on lines rest goes)));
  written = Appends-trans start mid now _ _ s.written t.written;
  wide = t.wide ∙ ap (λ b. b || t.told.wide) s.wide;
  good = t.good s.good;
}

-- what is told of the lines that are left makes a summary
closed : (limit number : ℕ) (start now : Option (List ℕ)) (r : Running) (left : List (List ℕ)) (s : Underway limit number start now r left) (rest : Told) → TellsFrom r left rest → IsSummary limit number (told_both s.told rest)
closed limit number start now r left s rest goes = subst (λ ls. Tells limit opening 1 ls (told_both s.told rest)) (sym s.split) (s.closes left rest goes)

pub underway_last : (limit number : ℕ) (start now : Option (List ℕ)) (r : Running) → Underway limit number start now r [] → TellsAll limit number start now r.wide
unfolding Tells
underway_last limit number start now r s = record {
  told = s.told;
  summary = subst (IsSummary limit number) (told_both-nothing s.told) (closed limit number start now r [] s nothing refl);
  written = s.written;
  is_wide = sym s.wide;
}

pub told_whole : (limit number : ℕ) (start mid now : Option (List ℕ)) (r : Running) (left : List (List ℕ)) → Underway limit number start mid r left → Keeps mid now → TellsWhole limit number start now
unfolding Tells
told_whole limit number start mid now r left s keeps = record {
  first = s.first;
  behind = left;
  lines = s.split;
  told = s.told;
  tells = subst (Tells limit opening 1 s.first) (told_both-nothing s.told) (subst (λ ls. Tells limit opening 1 ls (told_both s.told nothing)) (append-nil s.first) (s.closes [] nothing refl));
  written = Appends-kept start mid now _ s.written keeps;
}

pub stops_whole : Laws → (limit number : ℕ) (start mid now : Option (List ℕ)) (r : Running) (left : List (List ℕ)) → Underway limit number start mid r left → Keeps mid now → TellsSome limit number start now
stops_whole laws limit number start mid now r left s keeps =
    let rest = some_told laws r.session.limit r.session.machine r.question left s.good in
    record {
      told = told_both s.told rest.0;
      summary = closed limit number start mid r left s rest.0 rest.1;
      some = record { taken = s.told.text; rest = rest.0.text; split = refl; appends = Appends-kept start mid now _ s.written keeps };
    }

pub stops_within : (limit number : ℕ) (start mid now : Option (List ℕ)) (r : Running) (line : List ℕ) (left : List (List ℕ))
    → Underway limit number start mid r (line ∷ left) → TakesSome mid now r line → TellsSome limit number start now
stops_within limit number start mid now r line left s t =
    let rest = t.goes_on left s.good in
    record {
      told = told_both s.told (told_both t.told rest.0);
      summary = closed limit number start mid r (line ∷ left) s (told_both t.told rest.0) rest.1;
      some = record {
        taken = s.told.text ++ t.some.taken;
        rest = t.some.rest ++ rest.0.text;
        split = append_assoc s.told.text t.some.taken (t.some.rest ++ rest.0.text) ∙ ap (λ x. s.told.text ++ x) (sym (append_assoc t.some.taken t.some.rest rest.0.text) ∙ ap (λ x. x ++ rest.0.text) t.some.split);
        appends = Appends-trans start mid now _ _ s.written t.some.appends;
      };
    }

pub stops : Laws → (fault : StepFault) (limit number : ℕ) (start mid now : Option (List ℕ)) (r : Running) (line : List ℕ) (left : List (List ℕ)) → Underway limit number start mid r (line ∷ left)
    → (IsErrOf {T = Unit {0}} (Err fault) Memory → Keeps mid now) → (IsErrOf {T = Unit {0}} (Err fault) Write → TakesSome mid now r line) → TellsSome limit number start now
stops laws Memory limit number start mid now r line left s memory write = stops_whole laws limit number start mid now r (line ∷ left) s (memory refl)
stops laws Write limit number start mid now r line left s memory write = stops_within limit number start mid now r line left s (write refl)

-- what failed, whatever it would have given
at_err : {X Y E : Type 0} (fault other : E) → IsErrOf {T = X} (Err fault) other → IsErrOf {T = Y} (Err fault) other
at_err {X} {Y} {E} fault other is = ap there is
  where
    there : Result X E → Result Y E
    there (Ok x) = Err fault
    there (Err e) = Err e

pub told_at : (fault : StepFault) (limit number : ℕ) (start mid now : Option (List ℕ)) (r : Running) (left : List (List ℕ)) → Underway limit number start mid r left
    → (IsErrOf {T = Unit {0}} (Err fault) Memory → Keeps mid now) → IsErrOf {T = Bool} (Err fault) Memory → TellsWhole limit number start now
told_at fault limit number start mid now r left s keeps is = told_whole limit number start mid now r left s (keeps (at_err fault Memory is))

pub taken_some : {X : Type 0} (o : Option X) (x : X) (P : Type 0) (Q : X → Type 0) → o ≡ Some x → MatchOption o P Q → Q x
taken_some {X} o x P Q is taken = subst (λ (t : Option X). MatchOption t P Q) is taken

pub taken_none : {X : Type 0} (o : Option X) (P : Type 0) (Q : X → Type 0) → o ≡ None → MatchOption o P Q → P
taken_none {X} o P Q is taken = subst (λ (t : Option X). MatchOption t P Q) is taken
