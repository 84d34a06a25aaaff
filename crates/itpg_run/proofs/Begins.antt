-- At each status what was written begins the output.
use Rattle.std.proofs.Common.{◌≡◌, ℕ, Bool, Some, None, List, [], ◌++◌, IfSome, take, drop, refl, ap, ap₂, ◌∙◌, sym, subst, append_assoc, append-nil, take-append-drop, false, true}
use Rattle.std.specs.declared.option.Option.{Option}
use Rattle.itpg_base.specs.Outside.{AppendsSome}
use Rattle.command_words.specs.declared.options.Options.{Options}
use Rattle.row_printer.specs.declared.form.Form.{Form}
use Rattle.itpg_session.specs.Machine.{opening}
use Rattle.itpg_run.specs.Lines.{lines, whole}
use Rattle.std.proofs.KnownBytes.{Appends-nil, Consumes-nil}
use Rattle.itpg_run.specs.Out.{Mode, mode_at, Output, no_output, Runs, IsOut}
use Rattle.itpg_run.specs.Served.{is_json, longest, Served, WritesAs, WritesWithin, WritesOut, BeginsEach, IsIdle}
use Rattle.itpg_run.specs.Tried.{Tried}
use Rattle.trial_script.specs.Script.{script}
use Rattle.itpg_run.specs.Summary.{Tells, nothing}
use Rattle.command_words.specs.declared.status.Status.{Status}
use Rattle.command_words.specs.declared.status.Status.TheVariants.{Done, DoneRefused, Usage, ReadFault, WriteFault, Memory, TooLong}
use Rattle.itpg_run.proofs.MachineLaws.{Laws}
use Rattle.itpg_run.proofs.Running.{runs-part, one_run}
use Rattle.itpg_run.proofs.Output.{lines_front}

some_longer : (held now : Option (List ℕ)) (xs ys zs : List ℕ) → AppendsSome held now xs → xs ++ ys ≡ zs → AppendsSome held now zs
some_longer held now xs ys zs a e = record { taken = a.taken; rest = a.rest ++ ys; split = sym (append_assoc a.taken a.rest ys) ∙ ap (λ t. t ++ ys) a.split ∙ e; appends = a.appends }

-- by uniqueness: whatever the output is, a front part of it was written
within_each : Laws → (mode : Mode) (held now : Option (List ℕ)) (all : List ℕ) → WritesWithin mode held now all → (t : Output) → IsOut mode all t → AppendsSome held now t.text
within_each laws mode held now all w t out =
    let p = runs-part mode opening 1 w.front w.rest t (subst (λ ls. Runs mode opening 1 ls t) (sym w.split) out) in
    let same : w.output ≡ p.front = one_run laws mode opening 1 w.front w.output p.front laws.opening w.runs p.runs in
    some_longer held now w.output.text p.rest.text t.text w.some (ap (λ u. u.text ++ p.rest.text) same ∙ sym (ap (λ u. u.text) p.is))

all_within : (mode : Mode) (held now : Option (List ℕ)) (bytes : List ℕ) (failing : Bool) → WritesAs mode held now bytes failing → WritesWithin mode held now bytes
all_within mode held now bytes failing w = record { front = lines bytes; rest = []; split = append-nil _; output = w.output; runs = w.out; some = record { taken = w.output.text; rest = []; split = append-nil _; appends = w.written } }

whole_within : (mode : Mode) (held now : Option (List ℕ)) (xs more all : List ℕ) → xs ++ more ≡ all → WritesOut mode held now (whole xs) → WritesWithin mode held now all
whole_within mode held now xs more all e w =
    let l = lines_front xs more in
    record { front = lines (whole xs); rest = l.0; split = l.1 ∙ ap lines e; output = w.output; runs = w.out; some = record { taken = w.output.text; rest = []; split = append-nil _; appends = w.written } }

served_within : (mode : Mode) (status : Status) (before left held now : Option (List ℕ)) → Served status mode before left held now → IfSome before (λ all. WritesWithin mode held now all)
served_within mode status None left held now s = tt
served_within mode status (Some all) None held now s = absurd s.taken
served_within mode Done (Some all) (Some left) held now s = subst (WritesWithin mode held now) (sym (s.taken ∙ ap (λ t. s.bytes ++ t) s.writes.ended ∙ append-nil s.bytes)) (all_within mode held now s.bytes false s.writes.writes)
served_within mode DoneRefused (Some all) (Some left) held now s = subst (WritesWithin mode held now) (sym (s.taken ∙ ap (λ t. s.bytes ++ t) s.writes.ended ∙ append-nil s.bytes)) (all_within mode held now s.bytes true s.writes.writes)
served_within mode Usage (Some all) (Some left) held now s = absurd s.writes
served_within mode ReadFault (Some all) (Some left) held now s = whole_within mode held now s.bytes left all (sym s.taken) s.writes.1
served_within mode WriteFault (Some all) (Some left) held now s = s.writes
served_within mode Memory (Some all) (Some left) held now s =
    let w = s.writes in
    whole_within mode held now w.front (w.rest ++ left) all (sym (append_assoc w.front w.rest left) ∙ ap (λ t. t ++ left) w.split ∙ sym s.taken) w.writes
served_within mode TooLong (Some all) (Some left) held now s =
    whole_within mode held now (take longest s.bytes) (drop longest s.bytes ++ left) all (sym (append_assoc (take longest s.bytes) (drop longest s.bytes) left) ∙ ap (λ t. t ++ left) (take-append-drop longest s.bytes) ∙ sym s.taken) s.writes.1

pub served_each : Laws → (mode : Mode) (status : Status) (before left held now : Option (List ℕ)) → Served status mode before left held now → BeginsEach mode before held now
served_each laws mode status None left held now s = tt
served_each laws mode status (Some x) left held now s = within_each laws mode held now x (served_within mode status (Some x) left held now s)

-- words ask for one form
same_form : (a b : Form) → is_json a ≡ is_json b → a ≡ b
same_form Form.Plain Form.Plain e = refl
same_form Form.Plain Form.Json e = let no : ⊥ = cc in absurd no
same_form Form.Json Form.Plain e = let no : ⊥ = cc in absurd no
same_form Form.Json Form.Json e = refl

-- and for one mode
pub asked_mode : (mode : Mode) (form : Form) (options : Options) → is_json form ≡ options.json → options ≡ record { limits = mode.limit; trial = None; json = is_json mode.form } → mode_at form options.limits ≡ mode
asked_mode mode form options json is =
    ap₂ mode_at (same_form form mode.form (json ∙ ap (λ (o : Options). o.json) is)) (ap (λ (o : Options). o.limits) is)

-- where memory was wanting before anything was read
pub nothing_served : (mode : Mode) (left held : Option (List ℕ)) → Served Memory mode left left held held
unfolding Runs lines whole
nothing_served mode left held = record {
  bytes = [];
  taken = Consumes-nil left;
  writes = record { front = []; rest = []; split = refl; writes = record { output = no_output opening; out = refl; written = Appends-nil held } };
}

pub nothing_tried : (limit number : ℕ) (left held : Option (List ℕ)) → Tried Memory limit number left left held held
unfolding Tells
nothing_tried limit number left held = record {
  taken = Consumes-nil left;
  writes = record { first = []; behind = script number; lines = refl; told = nothing; tells = refl; written = Appends-nil held };
}

-- where nothing was written too
pub idle_each : (mode : Mode) (before left held now : Option (List ℕ)) → IsIdle before left held now → BeginsEach mode before held now
idle_each mode None left held now s = tt
idle_each mode (Some x) left held now s = λ t out. record { taken = []; rest = t.text; split = refl; appends = s.written }
