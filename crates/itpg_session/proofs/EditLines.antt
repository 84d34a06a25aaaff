-- A line that is an edit: what making it leaves, and its reply.
use Rattle.std.proofs.Common.{◌≡◌, ◌≢◌, ◌⊎◌, Option, Some, None, ℕ, refl, sym, subst}
use Rattle.std.specs.Prelude.{Result, Ok}
use Rattle.itpg_base.specs.Sinks.{Gets, GetsSome}
use Rattle.itpg_base.specs.declared.outside.Sink.{Ghosts}
use Rattle.itpg_base.specs.declared.rule_code.RuleCode.{RuleCode}
use Rattle.itpg_base.specs.declared.text_code.TextCode.{TextCode}
use Rattle.itpg_edit.specs.declared.edit.Edit.{Edit}
use Rattle.itpg_edit.specs.Rules.{Unbroken}
use Rattle.edit_reader.specs.Readings.{Reading, Changes}
use Rattle.row_printer.specs.declared.form.Form.{Form}
use Rattle.itpg_session.specs.Replies.{Silent, line_reply, edit_reply}
use Rattle.itpg_session.specs.Texts.{text_of, fails}
use Rattle.itpg_session.specs.Machine.{Machine, Standing, Answers, Replies, told, after}
use Rattle.itpg_session.specs.Steps.{StandsAs, Sees, Stepped, StepsWithin, IsDecided, ForgetsEdit, KeepsFresh, ForgetsLine, LeavesUnmadeLine}
use Rattle.itpg_session.specs.declared.reply.Seen.{Seen}
use Rattle.itpg_session.proofs.Answering.{turn_read, replies_read}
use Rattle.itpg_session.proofs.KeptFresh.{one_keeps, step_fresh}
use Rattle.itpg_session.proofs.Leaving.{said_unmade, line_unmade}
use Rattle.itpg_session.proofs.Told.{decided_as}

-- the reply leaves the machine
edit_after : (m : Machine) (broken : Option RuleCode) → after m (line_reply (edit_reply broken)) ≡ m
edit_after m None = refl
edit_after m (Some rule) = refl

edit_stands : (s : Standing) (broken : Option RuleCode) → StandsAs s (after s.machine (line_reply (edit_reply broken))) s.limit
edit_stands s broken = record { machine = sym (edit_after s.machine broken); limit = refl }

-- the line is this edit
module _ (Is : Result Reading TextCode → Type 0) (edit : Edit) (only : (other : Result Reading TextCode) → Is other → other ≡ Ok (Changes edit)) (old new : Standing) where
  pub edit_forgets : (Unbroken old.machine.graph edit → ForgetsEdit edit old new) → ForgetsLine Is old new
  edit_forgets made = λ other of unbroken.
      let read : Ok (Changes other) ≡ Ok (Changes edit) = only (Ok (Changes other)) of in
      let same : edit ≡ other = cc in
      subst (λ (e : Edit). ForgetsEdit e old new) same (made (subst (Unbroken old.machine.graph) (sym same) unbroken))

  module _ (broken : Option RuleCode) (decided : IsDecided (Answers old.limit old.machine (Changes edit)) old new (line_reply (edit_reply broken))) where
    pub edit_fresh : KeepsFresh old new
    edit_fresh =
        step_fresh (Ok (Changes edit)) old new new (line_reply (edit_reply broken)) new.limit
        (decided_as old new (turn_read old.limit old.machine (Changes edit)) (line_reply (edit_reply broken)) decided)
        (one_keeps (Changes edit) tt old new (line_reply (edit_reply broken)) decided) refl (edit_stands new broken)

    -- where something is said of it, it isn't made
    pub edit_unmade : line_reply (edit_reply broken) ≢ Silent → ForgetsEdit edit old new ⊎ (new.table ≡ old.table) → LeavesUnmadeLine Is old new
    edit_unmade says left =
        line_unmade Is (Ok (Changes edit)) old new only
        (said_unmade (Ok (Changes edit)) old new (line_reply (edit_reply broken)) says (turn_read old.limit old.machine (Changes edit) _ decided.turns) left)

    module _ {K : Type 0} (sink : Ghosts K) (before after : K) (form : Form) (number : ℕ) (is : Is (Ok (Changes edit))) where
      pub edit_stepped : (seen : Seen) → ((m : Machine) → Gets sink before after (text_of form m number (line_reply (edit_reply broken))))
          → ((m : Machine) → Sees seen (text_of form m number (line_reply (edit_reply broken))) (fails (line_reply (edit_reply broken))))
          → Stepped sink before after form (Replies old.limit old.machine Is) number old new seen
      edit_stepped seen written sees = record {
        turn = told new.machine (line_reply (edit_reply broken));
        turns = replies_read old.limit old.machine Is (Changes edit) is _ decided.turns;
        written = written old.machine;
        next = record { machine = sym (edit_after new.machine broken); limit = decided.limit };
        sees = sees old.machine;
      }

      pub edit_within : ((m : Machine) → GetsSome sink before after (text_of form m number (line_reply (edit_reply broken))))
          → StepsWithin sink before after form (Replies old.limit old.machine Is) number old
      edit_within some = record {
        turn = told new.machine (line_reply (edit_reply broken));
        turns = replies_read old.limit old.machine Is (Changes edit) is _ decided.turns;
        some = some old.machine;
      }
