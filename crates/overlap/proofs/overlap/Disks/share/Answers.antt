-- `overlap::overlap::Disks::share` meets its contract.
use mathlib.Core.Path.{◌∙◌, ◌≡◌, ap, sym}
use Rattle.numbers.proofs.Machine.{passed}
use Rattle.overlap.specs.Overlap.{lens, millionths, share}
use Rattle.overlap.proofs.OverlapLaws.{share_large_moon, share_nothing, share_ring, share_small_moon, share_whole}
use Rattle.overlap.proofs.ShareHolds.{every_share_holds}
use Rattle.overlap.proofs.overlap.Disks.share.Goals as goal
use Rattle.overlap.proofs.overlap.Disks.share.Goals.{else-sun-moon-2+else-apart-sun, then-sun-moon-2+else-apart-moon}

pub returns-then-sun-moon : goal.returns-then-sun-moon
returns-then-sun-moon c = let a = c.args.self in record {
  value = sym (share_nothing a.apart a.sun a.moon c.if-sun-moon.true);
  share_holds = every_share_holds a.apart a.sun a.moon;
}

pub returns-then-apart-moon : goal.returns-then-apart-moon
returns-then-apart-moon c =
    let a = c.args.self in record {
      value = sym (share_whole a.apart a.sun a.moon c.if-sun-moon.false c.if-sun-moon-2.true c.if-apart-moon.true);
      share_holds = every_share_holds a.apart a.sun a.moon;
    }

pub returns-then-apart-sun : goal.returns-then-apart-sun
returns-then-apart-sun c =
    let a = c.args.self in record {
      value = c.ring.ensures ∙ sym (share_ring a.apart a.sun a.moon c.if-sun-moon.false c.if-sun-moon-2.false c.if-apart-sun.true);
      share_holds = every_share_holds a.apart a.sun a.moon;
    }

pub returns : goal.returns
returns c =
    let a = c.args.self in
    let near = c.if-sun-moon.false in
    let lens_share : millionths (lens a.apart a.sun a.moon) ≡ share a.apart a.sun a.moon =
    elim c.if-sun-moon-2.branch [
      | then-sun-moon-2+else-apart-moon w ↦ sym (share_large_moon a.apart a.sun a.moon near w.if-sun-moon-2.true w.if-apart-moon.false)
      | else-sun-moon-2+else-apart-sun w ↦ sym (share_small_moon a.apart a.sun a.moon near w.if-sun-moon-2.false w.if-apart-sun.false)
    ] in record {
      value = c.millionths.ensures ∙ ap millionths (passed c.lens.type_inv c.lens.ensures) ∙ lens_share;
      share_holds = every_share_holds a.apart a.sun a.moon;
    }
