use Rattle.source_rows.proofs.Nearing.{all_agree}
use Rattle.source_rows.proofs.Cuts.{cuts_agree}
use Rattle.source_rows.proofs.laws.law_of_agreement.Goals as goal

pub returns-clause-whole : goal.returns-clause-whole
returns-clause-whole c = all_agree

pub returns-clause-cut : goal.returns-clause-cut
returns-clause-cut c = cuts_agree
