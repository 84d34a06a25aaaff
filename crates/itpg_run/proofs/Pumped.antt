-- What reads and chunks do to a run.
use Rattle.std.proofs.Common.{◌≡◌, ℕ, ◌+◌, ◌-◌, ◌≤◌, ◌<◌, Some, None, List, [], ◌++◌, IfSome, length, take, refl, ap, ◌∙◌, sym, subst, append_assoc, append-nil, length-append, arith, false}
use Rattle.std.specs.declared.option.Option.{Option}
use Rattle.std.specs.Io.KnownBytes.{Consumes, Keeps, IsAtEnd}
use Rattle.std.proofs.KnownBytes.{Consumes-trans, Consumes-kept, Appends-nil}
use Rattle.itpg_run.specs.Lines.{kept, whole}
use Rattle.itpg_run.specs.Out.{Mode, no_output, Runs}
use Rattle.itpg_session.specs.Machine.{opening}
use Rattle.itpg_session.specs.Steps.{StandsAs}
use Rattle.itpg_run.specs.Served.{longest, Served, WritesWithin, WritesOut, EndsWell}
use Rattle.itpg_run.specs.Fed.{Fed, Feeds, Stops, Ends}
use Rattle.itpg_run.specs.Pumped.{Pumped, Pumping, status_of}
use Rattle.itpg_run.specs.declared.reader.Reader.{Reader}
use Rattle.itpg_run.specs.declared.reader.Stop.{Stop}
use Rattle.itpg_run.specs.declared.reader.Stop.TheVariants as stop
use Rattle.command_words.specs.declared.status.Status.{Status}
use Rattle.command_words.specs.declared.status.Status.TheVariants.{Done, DoneRefused, Usage, ReadFault, WriteFault, Memory, TooLong}
use Rattle.itpg_run.proofs.Kept.{take_past, take_nothing}
use Rattle.itpg_run.proofs.Fed.{fed_out_whole}

pub pumped : (mode : Mode) (before mid left start now : Option (List ℕ)) (r : Reader) (count : ℕ) → Pumping mode before mid start now r count → count ≤ longest → Consumes mid left [] → IsAtEnd left → Pumped mode before left start now r
pumped mode before mid left start now r count p fits consumes ended = record {
  bytes = p.bytes;
  taken = subst (Consumes before left) (append-nil p.bytes) (Consumes-trans before mid left p.bytes [] p.taken consumes);
  fits = omega (arith, p.counted);
  ended = ended;
  fed = p.fed;
}

pub read_fault : (mode : Mode) (before mid left start now : Option (List ℕ)) (r : Reader) (count : ℕ) → Pumping mode before mid start now r count → count ≤ longest → Keeps mid left → Served ReadFault mode before left start now
read_fault mode before mid left start now r count p fits keeps = record {
  bytes = p.bytes;
  taken = Consumes-kept before mid left p.bytes p.taken keeps;
  writes = (omega (arith, p.counted), fed_out_whole mode start now r p.bytes p.fed);
}

pub pumping_more : (mode : Mode) (before mid left start held now : Option (List ℕ)) (old new : Reader) (count : ℕ) (more : List ℕ) → Pumping mode before mid start held old count → Consumes mid left more → Feeds held now old new more → Pumping mode before left start now new (count + length more)
pumping_more mode before mid left start held now old new count more p consumes feeds = record {
  bytes = p.bytes ++ more;
  taken = Consumes-trans before mid left p.bytes more p.taken consumes;
  counted = omega (arith, p.counted, length-append p.bytes more);
  fed = feeds mode start p.bytes p.fed;
}

-- known bytes that are consumed are those bytes and what is left
within_all : (mode : Mode) (before left start now : Option (List ℕ)) (bytes : List ℕ) → Consumes before left bytes → ((rest : List ℕ) → WritesWithin mode start now (bytes ++ rest)) → IfSome before (λ all. WritesWithin mode start now all)
within_all mode None left start now bytes c f = tt
within_all mode (Some x) None start now bytes c f = absurd c
within_all mode (Some x) (Some y) start now bytes c f = subst (λ t. WritesWithin mode start now t) (sym c) (f y)

pub stopped : (mode : Mode) (stop : Stop) (before mid left start held now : Option (List ℕ)) (r : Reader) (count : ℕ) (more : List ℕ) → Pumping mode before mid start held r count → count ≤ longest → Consumes mid left more → Stops stop held now r more (longest - count) → Served (status_of stop) mode before left start now
stopped mode stop.Memory before mid left start held now r count more p fits consumes stops = record {
  bytes = p.bytes ++ more;
  taken = Consumes-trans before mid left p.bytes more p.taken consumes;
  writes = stops mode start p.bytes p.fed;
}
stopped mode stop.Write before mid left start held now r count more p fits consumes stops =
    let taken = Consumes-trans before mid left p.bytes more p.taken consumes in
    record {
      bytes = p.bytes ++ more;
      taken = taken;
      writes = within_all mode before left start now (p.bytes ++ more) taken (λ rest. subst (λ t. WritesWithin mode start now t) (sym (append_assoc p.bytes more rest)) (stops mode start p.bytes p.fed rest));
    }
stopped mode stop.TooLong before mid left start held now r count more p fits consumes stops =
    let long : longest < length (p.bytes ++ more) = omega (arith, stops.0, p.counted, length-append p.bytes more) in
    let front : take longest (p.bytes ++ more) ≡ p.bytes ++ take (longest - count) more = take_past p.bytes more longest (omega (arith, p.counted)) ∙ ap (λ k. p.bytes ++ take (longest - k) more) p.counted in
    record {
      bytes = p.bytes ++ more;
      taken = Consumes-trans before mid left p.bytes more p.taken consumes;
      writes = (long, subst (λ t. WritesOut mode start now (whole t)) (sym front) (stops.1 mode start p.bytes p.fed));
    }

-- all was read, and then answered
pub finished : (mode : Mode) (status : Status) (before left start mid now : Option (List ℕ)) (r : Reader) → (p : Pumped mode before left start mid r) → Ends status mode start now p.bytes → Served status mode before left start now
finished mode Done before left start mid now r p e = record { bytes = p.bytes; taken = p.taken; writes = record { fits = p.fits; ended = p.ended; writes = e } }
finished mode DoneRefused before left start mid now r p e = record { bytes = p.bytes; taken = p.taken; writes = record { fits = p.fits; ended = p.ended; writes = e } }
finished mode Usage before left start mid now r p e = absurd e
finished mode ReadFault before left start mid now r p e = absurd e
finished mode WriteFault before left start mid now r p e = record { bytes = p.bytes; taken = p.taken; writes = all_of before left p.bytes p.taken p.ended e }
  where
    all_of : (before left : Option (List ℕ)) (bytes : List ℕ) → Consumes before left bytes → IsAtEnd left → WritesWithin mode start now bytes → IfSome before (λ all. WritesWithin mode start now all)
    all_of None l bytes c d f = tt
    all_of (Some x) None bytes c d f = absurd c
    all_of (Some x) (Some y) bytes c d f = subst (λ t. WritesWithin mode start now t) (sym (c ∙ ap (λ t. bytes ++ t) d ∙ append-nil bytes)) f
finished mode Memory before left start mid now r p e = record { bytes = p.bytes; taken = p.taken; writes = e }
finished mode TooLong before left start mid now r p e = absurd e

-- a new reader was fed nothing
pub begins : (mode : Mode) (held : Option (List ℕ)) (r : Reader) → r.form ≡ mode.form → StandsAs r.session opening mode.limit → r.number ≡ 1 → r.line.items ≡ [] → r.failing ≡ false → Fed mode held held r []
unfolding Runs
begins mode held r form session number line failing = record {
  lines = [];
  rest = [];
  split = refl;
  ended = tt;
  open_end = tt;
  output = no_output opening;
  runs = refl;
  form = form;
  session = session;
  number = number;
  line = line ∙ sym (take_nothing kept);
  failing = failing;
  written = Appends-nil held;
}

longer_than_all : (all bytes : List ℕ) (left : Option (List ℕ)) → Consumes (Some all) left bytes → length bytes ≤ length all
longer_than_all all bytes None c = absurd c
longer_than_all all bytes (Some y) c = omega (arith, ap length c, length-append bytes y)

-- with no fault and a script that fits, all ends well
pub ends_well : (mode : Mode) (status : Status) (before left held now : Option (List ℕ)) (R W : Type 0) → Served status mode before left held now → (status ≡ ReadFault → R) → (status ≡ WriteFault → W)
    → (all : List ℕ) → before ≡ Some all → length all ≤ longest → ¬ R → ¬ W → EndsWell status
ends_well mode Done before left held now R W s read write all is fits r w = tt
ends_well mode DoneRefused before left held now R W s read write all is fits r w = tt
ends_well mode Usage before left held now R W s read write all is fits r w = s.writes
ends_well mode ReadFault before left held now R W s read write all is fits r w = r (read refl)
ends_well mode WriteFault before left held now R W s read write all is fits r w = w (write refl)
ends_well mode Memory before left held now R W s read write all is fits r w = tt
ends_well mode TooLong before left held now R W s read write all is fits r w =
    let some = longer_than_all all s.bytes left (subst (λ b. Consumes b left s.bytes) is s.taken) in
    absurd (omega (arith, s.writes.0))

pub never_usage : (mode : Mode) (status : Status) (before left held now : Option (List ℕ)) → status ≡ Usage → Served status mode before left held now → ⊥
never_usage mode status before left held now is s = (subst (λ t. Served t mode before left held now) is s).writes
