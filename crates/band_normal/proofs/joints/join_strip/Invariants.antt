use Rattle.band_normal.proofs.joints.join_strip.Given as goal

abbrev pub ghost-prolonged : goal.ghost-prolonged
ghost-prolonged g a = g.held
