use Rattle.band_normal.proofs.sweep.swept.Given as goal

abbrev pub ghost-rows_over : goal.ghost-rows_over
ghost-rows_over a = a.bands.now
