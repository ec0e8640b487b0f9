use Rattle.std.proofs.Common.{refl, ◌∷◌}
use Rattle.cactus_text.proofs.scan.Items.number.Goals as goal

pub returns-in-Number-clause-some : goal.returns-in-Number-clause-some
returns-in-Number-clause-some c = c.in-Number.ensures.number c.in-Number.number refl

pub returns-in-Broken-clause-none : goal.returns-in-Broken-clause-none
returns-in-Broken-clause-none c n ns h = absurd (c.in-Broken.ensures.broken refl (n ∷ ns) h)
