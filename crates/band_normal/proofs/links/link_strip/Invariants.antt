use Rattle.band_normal.proofs.links.link_strip.Given as goal

abbrev pub ghost-join_strip : goal.ghost-join_strip
ghost-join_strip g a = g.held
