-- The footprints of short paths and of some questions, worked out.
use Rattle.std.proofs.Common.{refl}
use Rattle.label_scope.specs.FootprintTables.{AreAsked, asked_by_axes, asked_by_tests, asked_by_parts, asked_by_questions}

pub of_axes : AreAsked asked_by_axes
of_axes = (refl, (refl, (refl, (refl, (refl, (refl, (refl, tt)))))))

pub of_tests : AreAsked asked_by_tests
of_tests = (refl, (refl, (refl, (refl, (refl, (refl, (refl, (refl, (refl, (refl, (refl, (refl, (refl, (refl, (refl, tt)))))))))))))))

pub of_parts : AreAsked asked_by_parts
of_parts = (refl, (refl, (refl, (refl, (refl, (refl, (refl, (refl, (refl, (refl, tt))))))))))

pub of_questions : AreAsked asked_by_questions
of_questions = (refl, (refl, (refl, (refl, (refl, tt)))))
