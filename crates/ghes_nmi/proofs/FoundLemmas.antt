-- What the steps that look read of a block that stands is its image, and says what that says.
use Rattle.std.proofs.Common.{◌≡◌, ◌∙◌, ℕ, List, [], length, sym, ap, subst, Option, Some, None, unwrap_or, rules}
use Rattle.std.specs.Prelude.{option_map, is_some, IsTrue}
use Rattle.std.proofs.lemmas.Option.{none-some}
use Rattle.cper_block.specs.Header.{header_of, header_size, block_length, header_reason}
use Rattle.cper_block.specs.Image.{padded, image_by, image_of, image_reason, image_reason_by, is_fatal}
use Rattle.cper_block.specs.declared.malformed.Malformed.{Malformed as Reason}
use Rattle.ghes_nmi.proofs.AreaLemmas.{padded_long}
use Rattle.ghes_nmi.specs.Steps.{says, examined}
use Rattle.ghes_nmi.specs.declared.examining.Examined.{Examined}
use Rattle.ghes_nmi.specs.declared.examining.Examined.TheVariants.{Malformed}

-- a block whose header is accepted, and so many bytes of it as the header says
pub found_whole : (limit : ℕ) (stands : Option (List ℕ)) (header image : List ℕ) (said : Examined) → Some header ≡ option_map (padded header_size) stands → header_reason (header_of header) limit ≡ None → image ≡ padded (block_length (header_of header)) (unwrap_or stands []) → said ≡ examined image limit → IsTrue (is_some stands) × (image ≡ image_of limit (unwrap_or stands [])) × (said ≡ says (image_reason limit (unwrap_or stands [])) (is_fatal (image_of limit (unwrap_or stands []))))
found_whole limit None header image said read none is_image is_said = absurd (none-some header (sym read))
found_whole limit (Some block) header image said read none is_image is_said =
    let front : header ≡ padded header_size block = ap (λ o. unwrap_or o []) read in
    let whole : header_reason (header_of (padded header_size block)) limit ≡ None = subst (λ h. header_reason (header_of h) limit ≡ None) front none in
    let is : image ≡ image_of limit block = is_image ∙ ap (λ h. padded (block_length (header_of h)) block) front ∙ sym (ap (λ r. image_by r block) whole) in
    let says_so : examined (image_of limit block) limit ≡ says (image_reason limit block) (is_fatal (image_of limit block)) = sym (ap (λ r. says (image_reason_by r limit (image_of limit block)) (is_fatal (image_of limit block))) whole) in
    (search rules, is, is_said ∙ ap (λ i. examined i limit) is ∙ says_so)

-- a block whose header is refused
pub found_refused : (limit : ℕ) (stands : Option (List ℕ)) (header : List ℕ) (reason : Reason) → Some header ≡ option_map (padded header_size) stands → header_reason (header_of header) limit ≡ Some reason → IsTrue (is_some stands) × (header ≡ image_of limit (unwrap_or stands [])) × (Malformed reason ≡ says (image_reason limit (unwrap_or stands [])) (is_fatal (image_of limit (unwrap_or stands [])))) × (length header ≡ 20)
found_refused limit None header reason read refused = absurd (none-some header (sym read))
found_refused limit (Some block) header reason read refused =
    let front : header ≡ padded header_size block = ap (λ o. unwrap_or o []) read in
    let why : header_reason (header_of (padded header_size block)) limit ≡ Some reason = subst (λ h. header_reason (header_of h) limit ≡ Some reason) front refused in
    let is : header ≡ image_of limit block = front ∙ sym (ap (λ r. image_by r block) why) in
    let said : Malformed reason ≡ says (image_reason limit block) (is_fatal (image_of limit block)) = sym (ap (λ r. says (image_reason_by r limit (image_of limit block)) (is_fatal (image_of limit block))) why) in
    (search rules, is, said, ap length front ∙ padded_long header_size block)
