-- S4.2 at one typical share, with the products that no critical share changes taken out.
use Rattle.std.specs.Prelude.{ℕ, ◌+◌, ◌-◌, ◌*◌, ◌^◌, ◌<◌, min, Bool, leb}
use Rattle.sheet.specs.declared.task.Figures.{Figures}
use Rattle.shares.specs.declared.test.Terms.{Terms}
use Rattle.shares.specs.Test.{excess}

-- The parts of S4.2 that only a decides: D·a, (CN − LN) + LO·a, w·a and min(LN·a, w).
unfoldable pub terms_of : Figures → ℕ → Terms
terms_of f a =
    record {
      supply = f.deadline * a;
      slope = (f.nominal.work - f.nominal.span) + f.overload.span * a;
      fixed = excess f * a;
      extra = min (f.nominal.span * a) (excess f);
    }

-- S4.2 by these parts: supply·b ≥ slope·b + fixed + extra·(b − a).
unfoldable pub meets : Terms → ℕ → ℕ → Bool
meets t a b = leb (t.slope * b + t.fixed + t.extra * (b - a)) (t.supply * b)

-- What the terms of u32 figures at a u8 share come to at most, so that the test's products fit a u64.
pub record Small (t : Terms) : Type 0 where
  pub supply : t.supply < 2 ^ 40
  pub slope : t.slope < 2 ^ 41
  pub fixed : t.fixed < 2 ^ 40
  pub extra : t.extra < 2 ^ 40
