use Rattle.band_normal.proofs.union.normal.Given as goal

abbrev pub ghost-in_order : goal.ghost-in_order
ghost-in_order a = a.rows.items
