-- What there is to write to `out`.
use Rattle.std.specs.Prelude.{ℕ, ◌≤◌, ◌^◌, ⊤, List, string_bytes}
use Rattle.flat_cactus.specs.Flattened.{flat_of}
use Rattle.answer_pages.specs.Text.{cactus_text}
use Rattle.job_replies.specs.declared.reply.Reply.{Reply}
use Rattle.job_replies.specs.declared.reply.Reply.TheVariants.{Text, Cactus, Listing, Balanced, Growth, Augmentation}
use Rattle.vertex_set.specs.Side.{members_of}
use Rattle.answer_pages.specs.Augmenting.{augment_text}
use Rattle.answer_pages.specs.Growing.{growth_text}
use Rattle.answer_pages.specs.Listings.{listing_text, balanced_text}

abbrev pub text_of : Reply → List ℕ
text_of (Text text) = string_bytes text
text_of (Cactus value cactus workers) = cactus_text value cactus
text_of (Listing value sides workers) = listing_text value (members_of sides.items)
text_of (Balanced value balance side) = balanced_text value balance side.members
text_of (Growth steps solved) = growth_text steps.items solved.value (flat_of solved.cactus)
text_of (Augmentation value plan) = augment_text value plan

-- the numbers are within the limits of the text of a growth
abbrev pub IsPrintable : Reply → Type 0
IsPrintable (Growth steps solved) = (solved.value ≤ 2 ^ 62) × (solved.cactus.vertices ≤ 4194304)
IsPrintable _ = ⊤

-- memory is taken for writing it
abbrev pub TakesMemory : Reply → Type 0
TakesMemory (Text text) = ⊥
TakesMemory _ = ⊤
