-- The GUIDs of the classes as they lie in a block.
use Rattle.std.proofs.Common.{◌≡◌, [], ◌∷◌, refl}
use Rattle.uuid.proofs.OnLiterals.{uuid_on_literals}
use Rattle.cper_sections.specs.Section.{guid_of}
use Rattle.fw_einj.specs.Class.{section_guid, guid_bytes}
use Rattle.fw_einj.specs.declared.class.Class.TheVariants.{Processor, Memory, Pcie, Platform}

pub guid_bytes-processor : (0xad ∷ 0xcc ∷ 0x76 ∷ 0x98 ∷ 0xb4 ∷ 0x47 ∷ 0xdb ∷ 0x4b ∷ 0xb6 ∷ 0x5e ∷ 0x16 ∷ 0xf1 ∷ 0x93 ∷ 0xc4 ∷ 0xf3 ∷ 0xdb ∷ []) ≡ guid_bytes Processor
unfolding section_guid guid_of uuid_on_literals
guid_bytes-processor = refl

pub guid_bytes-memory : (0x14 ∷ 0x11 ∷ 0xbc ∷ 0xa5 ∷ 0x64 ∷ 0x6f ∷ 0xde ∷ 0x4e ∷ 0xb8 ∷ 0x63 ∷ 0x3e ∷ 0x83 ∷ 0xed ∷ 0x7c ∷ 0x83 ∷ 0xb1 ∷ []) ≡ guid_bytes Memory
unfolding section_guid guid_of uuid_on_literals
guid_bytes-memory = refl

pub guid_bytes-pcie : (0x54 ∷ 0xe9 ∷ 0x95 ∷ 0xd9 ∷ 0xc1 ∷ 0xbb ∷ 0x0f ∷ 0x43 ∷ 0xad ∷ 0x91 ∷ 0xb4 ∷ 0x4d ∷ 0xcb ∷ 0x3c ∷ 0x6f ∷ 0x35 ∷ []) ≡ guid_bytes Pcie
unfolding section_guid guid_of uuid_on_literals
guid_bytes-pcie = refl

pub guid_bytes-platform : (0x52 ∷ 0x0c ∷ 0x1d ∷ 0x6b ∷ 0xf4 ∷ 0x98 ∷ 0x3a ∷ 0x4c ∷ 0x8e ∷ 0x0b ∷ 0x2f ∷ 0x7a ∷ 0x51 ∷ 0xc0 ∷ 0xd9 ∷ 0xe3 ∷ []) ≡ guid_bytes Platform
unfolding section_guid guid_of uuid_on_literals
guid_bytes-platform = refl
