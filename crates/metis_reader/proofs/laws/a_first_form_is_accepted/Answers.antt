use Rattle.metis_reader.proofs.FirstForm.{first_form}
use Rattle.metis_reader.proofs.laws.a_first_form_is_accepted.Goals as goal

pub returns : goal.returns
returns c = first_form
