use Rattle.cper_block.proofs.ImageLemmas.{image_of_block, image_of_whole}
use Rattle.cper_block.proofs.laws.a_well_formed_block_is_its_own_image.Goals as goal

pub returns-clause-front : goal.returns-clause-front
returns-clause-front c = image_of_block

pub returns-clause-whole : goal.returns-clause-whole
returns-clause-whole c = image_of_whole
