use Rattle.answer_pages.proofs.printing.print.Goals as goal

pub returns-clause-whole : goal.returns-clause-whole
returns-clause-whole g c = rw c.in_ok-flat.ensures at c.print_text.ensures.whole

pub returns-clause-same_count : goal.returns-clause-same_count
returns-clause-same_count g c = c.print_text.ensures.same_count

pub returns-clause-prefix : goal.returns-clause-prefix
returns-clause-prefix g c = rw c.in_ok-flat.ensures at c.print_text.ensures.prefix

pub returns-clause-rose : goal.returns-clause-rose
returns-clause-rose g c = c.print_text.ensures.rose

pub returns-clause-memory : goal.returns-clause-memory
returns-clause-memory g c = c.print_text.ensures.memory
