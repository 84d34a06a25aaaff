use Rattle.band_normal.proofs.links.link.Given as goal

abbrev pub ghost-linked : goal.ghost-linked
ghost-linked a = a.starts.now
