use Rattle.std.proofs.Common.{◌≡◌, ◌++◌, take, drop, sym, ap, ◌∙◌, subst, append_assoc, take-append-drop, rules, arith}
use Rattle.itpg_run.specs.Lines.{whole}
use Rattle.itpg_run.specs.Served.{WritesOut, WritesWithin}
use Rattle.itpg_run.specs.Fed.{StopsWhole, StopsWithin}
use Rattle.itpg_run.proofs.Fed.{fed_out_whole, writes_longer}
use Rattle.itpg_run.proofs.reader.Reader.take_chunk.Goals as goal

pub returns-in-Ok-clause-stops : goal.returns-in-Ok-clause-stops
returns-in-Ok-clause-stops g c = (
  search rules,
  λ mode start bytes s.
      let e : c.min.result ≡ c.args.room = omega arith in
      subst (λ n. WritesOut mode start (g.K.Sink.held c.feed.new.out) (whole (bytes ++ take n c.args.bytes.now))) e (fed_out_whole mode start _ _ _ (c.in-Ok.ensures.fed mode start bytes s)),
)

pub returns-in-Err-Memory-clause-stops : goal.returns-in-Err-Memory-clause-stops
returns-in-Err-Memory-clause-stops g c = λ mode start bytes s.
    let xs = c.args.bytes.now in
    let n = c.min.result in
    let stops : StopsWhole (g.K.Sink.held c.args.out.now) (g.K.Sink.held c.feed.new.out) c.args.self.now (take c.min.result c.args.bytes.now) = search rules in
    writes_longer mode start _ (bytes ++ take n xs) (drop n xs) _ (stops mode start bytes s) (append_assoc bytes (take n xs) (drop n xs) ∙ ap (λ t. bytes ++ t) (take-append-drop n xs))

pub returns-in-Err-Write-clause-stops : goal.returns-in-Err-Write-clause-stops
returns-in-Err-Write-clause-stops g c = λ mode start bytes s rest.
    let xs = c.args.bytes.now in
    let n = c.min.result in
    let stops : StopsWithin (g.K.Sink.held c.args.out.now) (g.K.Sink.held c.feed.new.out) c.args.self.now (take c.min.result c.args.bytes.now) = search rules in
    subst (λ t. WritesWithin mode start (g.K.Sink.held c.feed.new.out) (bytes ++ t)) (sym (append_assoc (take n xs) (drop n xs) rest) ∙ ap (λ t. t ++ rest) (take-append-drop n xs)) (stops mode start bytes s (drop n xs ++ rest))
