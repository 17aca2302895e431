-- The light of an unused entry is made of f32 values: each of its floats is +0. Assumes nothing.
use lib.Dec.{lit<}
use Rattle.d3d9_types.specs.Light.{lightFits}
use Rattle.d3d9_types.proofs.Fits.{zero_fits, black_fits}
use Rattle.light_table.specs.Entry.{zero_light}

pub zero_light_fits : lightFits zero_light
unfolding zero_light
zero_light_fits =
    record {
      type_ = lit< tt;
      diffuse = black_fits;
      specular = black_fits;
      ambient = black_fits;
      position = record { x = zero_fits; y = zero_fits; z = zero_fits };
      direction = record { x = zero_fits; y = zero_fits; z = zero_fits };
      range = zero_fits;
      falloff = zero_fits;
      attenuation0 = zero_fits;
      attenuation1 = zero_fits;
      attenuation2 = zero_fits;
      theta = zero_fits;
      phi = zero_fits;
    }
