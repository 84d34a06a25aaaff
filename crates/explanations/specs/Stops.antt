-- Why a chunk wasn't taken whole, as a status.
use Rattle.command_words.specs.declared.status.Status.{Status}
use Rattle.command_words.specs.declared.status.Status.TheVariants as status
use Rattle.explanations.specs.declared.run.Stop.{Stop}
use Rattle.explanations.specs.declared.run.Stop.TheVariants as stop

abbrev pub status_of : Stop → Status
status_of stop.Memory = status.Memory
status_of stop.Write = status.WriteFault
status_of stop.TooLong = status.TooLong
