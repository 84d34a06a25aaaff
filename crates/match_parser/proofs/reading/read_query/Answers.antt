use Rattle.itpg_base.specs.declared.text_code.TextCode.TheVariants.{Text}
use Rattle.match_parser.specs.Views.{chain_view, query_made}
use Rattle.match_parser.proofs.Whole.{bad_reads, bad_first, good_reads, good_first, whole_small, whole_bad, whole_good, whole_text}
use Rattle.match_parser.proofs.reading.read_query.Goals as goal

pub returns-in-Err-clause-reads : goal.returns-in-Err-clause-reads
returns-in-Err-clause-reads c = bad_reads c.args.text.now c.in-Err.code c.in-Err.ensures.fault

pub returns-in-Err-clause-first : goal.returns-in-Err-clause-first
returns-in-Err-clause-first c = bad_first c.args.text.now c.in-Err.code c.in-Err.ensures.fault

pub later_fault-requires : goal.later_fault-requires
later_fault-requires c = whole_small c.args.text.now c.in-Ok.count c.in-Ok-collect.list.items c.as_slice-tokens.result.now c.as_slice-tokens.ensures.value c.in-Ok.ensures.ok c.in-Ok-collect.ensures (chain_view c.in-Ok-read_whole.chain) c.in-Ok-read_whole.graph_name c.in-Ok-read_whole.ensures

pub returns-in-Some-clause-fault : goal.returns-in-Some-clause-fault
returns-in-Some-clause-fault c = whole_bad c.args.text.now c.in-Ok.count c.in-Ok-collect.list.items c.as_slice-tokens.result.now c.as_slice-tokens.ensures.value c.in-Ok.ensures.ok c.in-Ok-collect.ensures (chain_view c.in-Ok-read_whole.chain) c.in-Ok-read_whole.graph_name c.in-Ok-read_whole.ensures c.later_fault.result c.in-Some.code c.later_fault.ensures c.in-Some.is

pub returns-in-Some-clause-reads : goal.returns-in-Some-clause-reads
returns-in-Some-clause-reads c = bad_reads c.args.text.now c.in-Some.code (whole_bad c.args.text.now c.in-Ok.count c.in-Ok-collect.list.items c.as_slice-tokens.result.now c.as_slice-tokens.ensures.value c.in-Ok.ensures.ok c.in-Ok-collect.ensures (chain_view c.in-Ok-read_whole.chain) c.in-Ok-read_whole.graph_name c.in-Ok-read_whole.ensures c.later_fault.result c.in-Some.code c.later_fault.ensures c.in-Some.is)

pub returns-in-Some-clause-first : goal.returns-in-Some-clause-first
returns-in-Some-clause-first c = bad_first c.args.text.now c.in-Some.code (whole_bad c.args.text.now c.in-Ok.count c.in-Ok-collect.list.items c.as_slice-tokens.result.now c.as_slice-tokens.ensures.value c.in-Ok.ensures.ok c.in-Ok-collect.ensures (chain_view c.in-Ok-read_whole.chain) c.in-Ok-read_whole.graph_name c.in-Ok-read_whole.ensures c.later_fault.result c.in-Some.code c.later_fault.ensures c.in-Some.is)

pub returns-in-Ok-read_whole-clause-query : goal.returns-in-Ok-read_whole-clause-query
returns-in-Ok-read_whole-clause-query c = rw c.make_query.ensures (whole_good c.args.text.now c.in-Ok.count c.in-Ok-collect.list.items c.as_slice-tokens.result.now c.as_slice-tokens.ensures.value c.in-Ok.ensures.ok c.in-Ok-collect.ensures (chain_view c.in-Ok-read_whole.chain) c.in-Ok-read_whole.graph_name c.in-Ok-read_whole.ensures c.later_fault.result c.later_fault.ensures c.in-None.is)

pub returns-in-Ok-read_whole-clause-reads : goal.returns-in-Ok-read_whole-clause-reads
returns-in-Ok-read_whole-clause-reads c = rw c.make_query.ensures (good_reads c.args.text.now (query_made (chain_view c.in-Ok-read_whole.chain) c.in-Ok-read_whole.graph_name) (whole_good c.args.text.now c.in-Ok.count c.in-Ok-collect.list.items c.as_slice-tokens.result.now c.as_slice-tokens.ensures.value c.in-Ok.ensures.ok c.in-Ok-collect.ensures (chain_view c.in-Ok-read_whole.chain) c.in-Ok-read_whole.graph_name c.in-Ok-read_whole.ensures c.later_fault.result c.later_fault.ensures c.in-None.is))

pub returns-in-Ok-read_whole-clause-first : goal.returns-in-Ok-read_whole-clause-first
returns-in-Ok-read_whole-clause-first c = good_first c.args.text.now (query_made (chain_view c.in-Ok-read_whole.chain) c.in-Ok-read_whole.graph_name) (whole_good c.args.text.now c.in-Ok.count c.in-Ok-collect.list.items c.as_slice-tokens.result.now c.as_slice-tokens.ensures.value c.in-Ok.ensures.ok c.in-Ok-collect.ensures (chain_view c.in-Ok-read_whole.chain) c.in-Ok-read_whole.graph_name c.in-Ok-read_whole.ensures c.later_fault.result c.later_fault.ensures c.in-None.is)

pub returns-in-Err-Text-clause-fault : goal.returns-in-Err-Text-clause-fault
returns-in-Err-Text-clause-fault c = whole_text c.args.text.now c.in-Ok.count c.in-Ok-collect.list.items c.as_slice-tokens.result.now c.as_slice-tokens.ensures.value c.in-Ok.ensures.ok c.in-Ok-collect.ensures (rw c.in-Err-Text.field-0-is at c.in-Err-Text.ensures)

pub returns-in-Err-Text-clause-reads : goal.returns-in-Err-Text-clause-reads
returns-in-Err-Text-clause-reads c = bad_reads c.args.text.now Text (whole_text c.args.text.now c.in-Ok.count c.in-Ok-collect.list.items c.as_slice-tokens.result.now c.as_slice-tokens.ensures.value c.in-Ok.ensures.ok c.in-Ok-collect.ensures (rw c.in-Err-Text.field-0-is at c.in-Err-Text.ensures))

pub returns-in-Err-Text-clause-first : goal.returns-in-Err-Text-clause-first
returns-in-Err-Text-clause-first c = bad_first c.args.text.now Text (whole_text c.args.text.now c.in-Ok.count c.in-Ok-collect.list.items c.as_slice-tokens.result.now c.as_slice-tokens.ensures.value c.in-Ok.ensures.ok c.in-Ok-collect.ensures (rw c.in-Err-Text.field-0-is at c.in-Err-Text.ensures))
