-- Where a source stands by its tables and its area: no two of its parts share a cell.
use Rattle.std.proofs.Common.{◌≡◌, ◌≤◌, ◌<◌, ◌+◌, ◌/◌, ◌^◌, ℕ, true, false, ◌&&◌, nat_lt, max, Option, Some, None, refl, sym, subst, arith}
use Rattle.std.proofs.lemmas.Bool.Decides.{nat_tests}
use Rattle.std.specs.Option.{IfSome, ForSome, option_map}
use Rattle.apei_base.specs.Bus.{Reach, reach_of, same_space}
use Rattle.apei_base.specs.Width.{is_width}
use Rattle.apei_base.specs.declared.region.Region.{Region}
use Rattle.apei_base.specs.declared.region.Space.{Space}
use Rattle.apei_base.specs.declared.region.Space.TheVariants.{Memory, Port}
use Rattle.apei_hest.specs.Sound.{IsSound}
use Rattle.apei_hest.specs.declared.source.Ack2.{Ack2}
use Rattle.apei_hest.specs.declared.source.Ghes.{Ghes}
use Rattle.fw_map.specs.Apart.{gas_reach, IsToldApart}
use Rattle.fw_map.specs.Registers.{gas_run}
use Rattle.fw_map.specs.Runs.{shares}
use Rattle.fw_map.specs.declared.run.Run.{Run}
use Rattle.fw_port.specs.Layout.{share, register_cells, IsRegister, IsAckRegister, IsLayout}

-- runs that share no cell, of which each has one
apart_numbers : (a m b n : ℕ) → 0 < m → 0 < n → (nat_lt (max a b) (a + m) && nat_lt (max a b) (b + n)) ≡ false → (nat_lt a (b + n) && nat_lt b (a + m)) ≡ false
apart_numbers a m b n some more apart = grind (arith, nat_tests)

apart_parts : (p q : Space) (a m b n : ℕ) → 0 < m → 0 < n → (same_space p q && nat_lt (max a b) (a + m) && nat_lt (max a b) (b + n)) ≡ false → (same_space p q && nat_lt a (b + n) && nat_lt b (a + m)) ≡ false
apart_parts Memory Memory a m b n some more apart = apart_numbers a m b n some more apart
apart_parts Port Port a m b n some more apart = apart_numbers a m b n some more apart
apart_parts Memory Port a m b n some more apart = refl
apart_parts Port Memory a m b n some more apart = refl

back_numbers : (a m b n : ℕ) → 0 < m → 0 < n → (nat_lt (max a b) (a + m) && nat_lt (max a b) (b + n)) ≡ false → (nat_lt b (a + m) && nat_lt a (b + n)) ≡ false
back_numbers a m b n some more apart = grind (arith, nat_tests)

back_parts : (p q : Space) (a m b n : ℕ) → 0 < m → 0 < n → (same_space p q && nat_lt (max a b) (a + m) && nat_lt (max a b) (b + n)) ≡ false → (same_space q p && nat_lt b (a + m) && nat_lt a (b + n)) ≡ false
back_parts Memory Memory a m b n some more apart = back_numbers a m b n some more apart
back_parts Port Port a m b n some more apart = back_numbers a m b n some more apart
back_parts Memory Port a m b n some more apart = refl
back_parts Port Memory a m b n some more apart = refl

-- a width has a byte
has_byte : (w : ℕ) → is_width w ≡ true → 0 < w / 8
has_byte w is = grind (arith, nat_tests)

-- a register is one of the source's, by the region that it names
register_from : (gas_is : Reach) (region : Region) (area : Run) → reach_of region ≡ gas_is → region.address + region.width / 8 ≤ 2 ^ 64 → 0 < area.bytes → area.space ≡ Memory → shares (record { space = gas_is.space; first = gas_is.address; bytes = gas_is.width / 8 }) area ≡ false → IsRegister (reach_of region) area.first area.bytes
register_from gas_is region area is ends some memory apart = record {
  whole = region.width_is;
  ends = ends;
  apart =
      let here : shares (record { space = region.space; first = region.address; bytes = region.width / 8 }) area ≡ false =
      subst (λ (r : Reach). shares (record { space = r.space; first = r.address; bytes = r.width / 8 }) area ≡ false) (sym is) apart in
      let there : (same_space region.space Memory && nat_lt (max region.address area.first) (region.address + region.width / 8) && nat_lt (max region.address area.first) (area.first + area.bytes)) ≡ false =
      subst (λ (s : Space). (same_space region.space s && nat_lt (max region.address area.first) (region.address + region.width / 8) && nat_lt (max region.address area.first) (area.first + area.bytes)) ≡ false) memory here in
      apart_parts region.space Memory region.address (region.width / 8) area.first area.bytes (has_byte region.width region.width_is) some there;
}

-- the two registers of a source share no cell
registers_apart : (status ack : Region) (status_gas ack_gas : Reach) → reach_of status ≡ status_gas → reach_of ack ≡ ack_gas → shares (record { space = status_gas.space; first = status_gas.address; bytes = status_gas.width / 8 }) (record { space = ack_gas.space; first = ack_gas.address; bytes = ack_gas.width / 8 }) ≡ false → share (register_cells (reach_of ack)) (register_cells (reach_of status)) ≡ false
registers_apart status ack status_gas ack_gas status_is ack_is apart =
    let here = subst (λ (r : Reach). shares (record { space = r.space; first = r.address; bytes = r.width / 8 }) (record { space = ack_gas.space; first = ack_gas.address; bytes = ack_gas.width / 8 }) ≡ false) (sym status_is) apart in
    let there = subst (λ (r : Reach). shares (record { space = status.space; first = status.address; bytes = status.width / 8 }) (record { space = r.space; first = r.address; bytes = r.width / 8 }) ≡ false) (sym ack_is) here in
    back_parts status.space ack.space status.address (status.width / 8) ack.address (ack.width / 8) (has_byte status.width status.width_is) (has_byte ack.width ack.width_is) there

-- what holds of the read ack register, if there is one
ack_from : (told : Option Ack2) (ack : Option Region) (status : Region) (status_gas : Reach) (area : Run) → option_map reach_of ack ≡ option_map (λ (a : Ack2). gas_reach a.register) told → IfSome ack (λ region. region.address + region.width / 8 ≤ 2 ^ 64) → reach_of status ≡ status_gas → 0 < area.bytes → area.space ≡ Memory → IfSome told (λ a. shares (gas_run a.register) area ≡ false) → IfSome told (λ a. shares (record { space = status_gas.space; first = status_gas.address; bytes = status_gas.width / 8 }) (gas_run a.register) ≡ false) → ForSome (option_map reach_of ack) (λ register. IsAckRegister register (reach_of status) area.first area.bytes)
ack_from told None status status_gas area same ends status_is some memory apart other = λ register is. absurd (cc is)
ack_from None (Some region) status status_gas area same ends status_is some memory apart other = λ register is. absurd (cc same)
ack_from (Some a) (Some region) status status_gas area same ends status_is some memory apart other =
    let reach_is : reach_of region ≡ gas_reach a.register = cc same in
    λ register is.
    let register_is : reach_of region ≡ register = cc is in
    subst (λ r. IsAckRegister r (reach_of status) area.first area.bytes) register_is (record {
      is = register_from (gas_reach a.register) region area reach_is ends some memory apart;
      other = registers_apart status region status_gas (gas_reach a.register) status_is reach_is other;
    })

-- where a source stands that is sound and told apart from its area
pub layout_from : (ghes : Ghes) (area : Run) (status : Region) (ack : Option Region) → IsSound ghes → IsToldApart ghes area → reach_of status ≡ gas_reach ghes.status → status.address + status.width / 8 ≤ 2 ^ 64 → option_map reach_of ack ≡ option_map (λ (a : Ack2). gas_reach a.register) ghes.ack → IfSome ack (λ region. region.address + region.width / 8 ≤ 2 ^ 64) → IsLayout (reach_of status) area.first area.bytes (option_map reach_of ack)
layout_from ghes area status ack sound told status_is status_ends ack_is ack_ends =
    let header : 20 ≤ area.bytes = grind (arith, told.limit, sound.room) in
    record {
      placed = told.placed;
      header = header;
      ends = told.ends;
      wide = subst (λ (r : Reach). area.first < 2 ^ r.width) (sym status_is) told.fits;
      status_is = register_from (gas_reach ghes.status) status area status_is status_ends (omega (arith, header)) told.memory told.status;
      ack_is = ack_from ghes.ack ack status (gas_reach ghes.status) area ack_is ack_ends status_is (omega (arith, header)) told.memory told.ack told.registers;
    }
